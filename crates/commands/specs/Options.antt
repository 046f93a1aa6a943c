-- The options of a command on texts with names.
use Rattle.std.specs.Prelude.{◌≡◌, ℕ, List, [], ◌∷◌, ◌++◌, codes, if◌then◌else◌}
use Rattle.std.specs.Str.{bytes_eq}
use Rattle.std.specs.Str.Lossy.{utf8_lossy}
use Rattle.inputs.specs.Reads.{Text}
use Rattle.naming.specs.Texts.{IsNamed}
use Rattle.exploring.specs.Words.{Parted, nothing_parted, with_word}
use Rattle.exploring.specs.declared.words.Next.{Next}
use Rattle.exploring.specs.declared.words.Next.TheVariants.{Any, File}

-- What the first option is. Only `explore` has events among its options. The options of other commands stay as they
-- are, like names of files.
abbrev pub first_option : Text → Next
first_option command = if bytes_eq command (codes "explore") then Any else File

-- an argument as `explore` reads it: the event that it ends with, if it has one, and what the next argument is
abbrev pub read : Next → Text → Parted
read next word = with_word (record nothing_parted { next = next }) word

-- an event after some text, with numbers in place of its names
abbrev pub EndsPlain : Text → Text → Text → Type 0
EndsPlain before event plain = (named told : List ℕ) × IsNamed event named told × (plain ≡ before ++ utf8_lossy named)

-- In an argument that ends with an event, the event without names replaces the event. Other arguments stay.
abbrev pub IsPlainWord : Text → List Text → Text → Type 0
IsPlainWord word [] plain = plain ≡ word
IsPlainWord word (event ∷ others) plain = (before : Text) × (word ≡ before ++ event) × EndsPlain before event plain

-- Options, and what replaces each.
abbrev pub ArePlain : Next → List Text → List Text → Type 0
ArePlain next [] [] = Unit {0}
ArePlain next [] (plain ∷ others) = ⊥
ArePlain next (word ∷ more) [] = ⊥
ArePlain next (word ∷ more) (plain ∷ others) = IsPlainWord word (read next word).anywhere plain × ArePlain (read next word).next more others
