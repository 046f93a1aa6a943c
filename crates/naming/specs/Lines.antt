-- The sorts of lines, and the lines that replace them.
use Rattle.std.specs.Prelude.{◌≡◌, ◌≢◌, ℕ, ◌==◌, ◌||◌, not, Bool, true, false, List, All, ◌∷◌, ◌++◌, Option, None, Some, codes, length, if◌then◌else◌}
use Rattle.std.specs.Char.{is_ascii_uppercase}
use Rattle.std.specs.List.{list_any}
use Rattle.std.specs.Str.{bytes_eq}
use Rattle.text.specs.Words.{before_comment, behind_word, first_word}
use Rattle.wording.specs.Proses.{Grows, ProseView}
use Rattle.naming.specs.declared.line.Outcome.{Outcome}
use Rattle.naming.specs.declared.line.Outcome.TheVariants.{Same, Named, Refused}
use Rattle.naming.specs.declared.line.Sort.{Sort}
use Rattle.naming.specs.declared.line.Sort.TheVariants.{Set, Key, Typed, Other}

-- a line without a line feed
abbrev pub IsOneLine : List ℕ → Type 0
IsOneLine line = All (λ b. b ≢ 10) line

-- ---- sorts of lines

abbrev pub sort_named : List ℕ → Sort
sort_named word = if bytes_eq word (codes "set") then Set
    else if bytes_eq word (codes "key") then Key
    else if bytes_eq word (codes "type") then Typed
    else Other

-- A line has no names if nothing follows its first word.
abbrev pub sort_of : List ℕ → Sort
sort_of line = if length (behind_word line) == 0 then Other else sort_named (first_word line)

-- the bytes with which names, sets, keys and texts begin: A to Z, `{`, `^` and `"`
abbrev pub begins_name : ℕ → Bool
begins_name b = is_ascii_uppercase b || b == 123 || b == 94 || b == 34

-- True if no name, set, key or text can begin before the comment of a line.
abbrev pub is_plain : List ℕ → Bool
is_plain line = not (list_any begins_name (before_comment line))

-- ---- the line that replaces a line

-- the line that replaces a line, and whether something in the replaced line is rejected
pub record Renamed : Type 0 where
  pub text : List ℕ
  pub is_refused : Bool

-- A line without names stays. If a name in a line `set`, or the text of a line `type`, is rejected, the line stays.
abbrev pub kept : List ℕ → Renamed
kept line = record { text = line; is_refused = false }

abbrev pub refused : List ℕ → Renamed
refused line = record { text = line; is_refused = true }

abbrev pub renamed_as : List ℕ → Option (List ℕ) → Renamed
renamed_as line None = refused line
renamed_as line (Some text) = record { text = text; is_refused = false }

abbrev pub said : List ℕ → Outcome → Renamed
said line Same = kept line
said line (Named text) = record { text = text.items; is_refused = false }
said line Refused = refused line

-- ---- the messages about a line

-- At least one byte was added.
abbrev pub IsMore : List ℕ → List ℕ → Type 0
IsMore old new = (byte : ℕ) × (more : List ℕ) × (new ≡ old ++ byte ∷ more)

-- Bytes were added, possibly none. If the text has all its pieces now, it had all of them before.
abbrev pub Extends : ProseView → ProseView → Type 0
Extends old new = (new.is_whole ≡ true → old.is_whole ≡ true) × Grows old.text new.text

-- At least one byte was added, unless the text lacks a piece now. The old bytes stay in any case.
abbrev pub AddsMore : ProseView → ProseView → Type 0
AddsMore old new = (new.is_whole ≡ true → (old.is_whole ≡ true) × IsMore old.text new.text) × Grows old.text new.text

-- The messages before and after a line: if something in it is rejected, bytes were added. Otherwise, the messages stay.
abbrev pub IsToldIf : Bool → ProseView → ProseView → Type 0
IsToldIf false old new = new ≡ old
IsToldIf true old new = AddsMore old new

-- A rejected line adds bytes to the messages, and no other line does.
abbrev pub IsTold : Outcome → ProseView → ProseView → Type 0
IsTold Same old new = new ≡ old
IsTold (Named text) old new = new ≡ old
IsTold Refused old new = AddsMore old new

abbrev pub IsOneLineOutcome : Outcome → Type 0
IsOneLineOutcome Same = Unit {0}
IsOneLineOutcome (Named text) = IsOneLine text.items
IsOneLineOutcome Refused = Unit {0}
