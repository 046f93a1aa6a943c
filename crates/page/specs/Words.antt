-- The arguments of a command line as one text, in which each argument ends with a zero byte.
use Rattle.std.specs.Prelude.{◌≡◌, ℕ, ◌==◌, Bool, true, false, List, [], ◌∷◌, ◌++◌, codes, flat_map, map, Option, None, Some, option_map, IfSome, MatchResult, IsUtf8}
use Rattle.std.specs.List.{AllByRecursion}
use Rattle.inputs.specs.declared.command_line.WordsFault.TheVariants.{NotText}
use Rattle.inputs.specs.Reads.{Text}
use Rattle.commands.specs.Serving.{Words}

-- the text of words
abbrev pub text_of : List Text → List ℕ
text_of words = flat_map (λ word. word ++ 0 ∷ []) words

-- The words, with one more byte before them. A zero byte ends an empty word; another byte begins the first word, if
-- there is one.
abbrev pub with_byte : Bool → ℕ → List Text → Option (List Text)
with_byte true b words = Some ([] ∷ words)
with_byte false b [] = None
with_byte false b (word ∷ more) = Some ((b ∷ word) ∷ more)

abbrev pub with_byte_if : ℕ → Option (List Text) → Option (List Text)
with_byte_if b None = None
with_byte_if b (Some words) = with_byte (b == 0) b words

-- the words of a text, if each of them has a zero byte
abbrev pub words_of : List ℕ → Option (List Text)
words_of [] = Some []
words_of (b ∷ bytes) = with_byte_if b (words_of bytes)

abbrev pub with_word : Text → Option (List Text) → Option (List Text)
with_word word words = option_map (λ more. word ∷ more) words

abbrev pub behind : List Text → Option (List Text) → Option (List Text)
behind first words = option_map (λ more. first ++ more) words

-- The text is not a list of words that are UTF-8.
abbrev pub IsNoText : List ℕ → Type 0
IsNoText bytes = IfSome (words_of bytes) (λ words. AllByRecursion IsUtf8 words → ⊥)

-- These are the words of a text, or this is the reason why they are not known.
abbrev pub AreWordsOf : List ℕ → Words → Type 0
AreWordsOf bytes said = MatchResult said (λ words. words_of bytes ≡ Some (map (λ w. w.now) words.now)) (λ fault. fault ≡ NotText → IsNoText bytes)

-- `run world events` and `audit trace`
abbrev pub words_to_run : List Text
words_to_run = codes "run" ∷ codes "world" ∷ codes "events" ∷ []

abbrev pub words_to_audit : List Text
words_to_audit = codes "audit" ∷ codes "trace" ∷ []
