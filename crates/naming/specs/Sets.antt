-- Lines `set rA, NAMES`: one name, several with `|` between them, or signals in braces. Blanks may surround a `|`.
use Rattle.std.specs.Prelude.{ℕ, ℤ, ◌+◌, ◌-◌, ◌==◌, ◌&&◌, ◌||◌, not, Bool, true, List, [], ◌∷◌, ◌++◌, Option, None, Some, drop, get_or, length, option_map, take, if◌then◌else◌}
use Rattle.std.specs.Char.{is_ascii_digit, is_ascii_uppercase}
use Rattle.std.specs.Fmt.{signed_decimal}
use Rattle.std.specs.List.{position, position_or_len}
use Rattle.std.specs.Option.{option_and_then}
use Rattle.text.specs.Words.{before_comment, behind_word, from_word, is_separator}
use Rattle.naming.specs.Lines.{Renamed, kept, renamed_as}
use Rattle.naming.specs.Names.{number_of}
use Rattle.naming.specs.declared.number.Form.{Form}
use Rattle.naming.specs.declared.number.Form.TheVariants.{Joined, Set}

-- what follows the second word
abbrev pub behind_second : List ℕ → List ℕ
behind_second line = behind_word (behind_word line)

-- ---- the names

-- space and tab
abbrev pub is_blank : ℕ → Bool
is_blank b = (b == 32) || (b == 9)

-- a text without the blanks at its end
abbrev pub and_trimmed : ℕ → List ℕ → List ℕ
and_trimmed b [] = if is_blank b then [] else b ∷ []
and_trimmed b (c ∷ cs) = b ∷ c ∷ cs

abbrev pub trimmed : List ℕ → List ℕ
trimmed [] = []
trimmed (b ∷ bs) = and_trimmed b (trimmed bs)

-- the text and one more byte, without blanks around a `|`
abbrev pub with_byte : List ℕ → ℕ → List ℕ
with_byte text b = if b == 124 then trimmed text ++ b ∷ []
    else if is_blank b && (get_or text (length text - 1) 0 == 124) then text
    else text ++ b ∷ []

abbrev pub with_bytes : List ℕ → List ℕ → List ℕ
with_bytes text [] = text
with_bytes text (b ∷ bs) = with_bytes (with_byte text b) bs

unfoldable pub without_blanks : List ℕ → List ℕ
without_blanks text = with_bytes [] text

-- A to Z, 0 to 9, `_`, `|` and `+`
abbrev pub is_in_names : ℕ → Bool
is_in_names b = is_ascii_uppercase b || is_ascii_digit b || ((b == 95) || (b == 124) || (b == 43))

-- True if nothing, or a separator of words, follows the names.
abbrev pub is_ended : List ℕ → Bool
is_ended [] = true
is_ended (b ∷ bs) = is_separator b

-- the names without their braces, if they have any
abbrev pub within : Form → List ℕ → List ℕ
within Joined names = names
within Set names = take (length names - 2) (drop 1 names)

abbrev pub number_before : Form → List ℕ → List ℕ → Option ℤ
number_before form names behind = if is_ended behind then number_of form (within form names) else None

-- ---- the line

-- the line with a number in place of the first `len` bytes of its operand
abbrev pub with_number : List ℕ → List ℕ → Form → List ℕ → ℕ → Option (List ℕ)
with_number before comment form operand len =
    option_map (λ number. before ++ (signed_decimal number ++ (drop len operand ++ comment))) (number_before form (take len operand) (drop len operand))

abbrev pub in_braces : List ℕ → List ℕ → List ℕ → Option (List ℕ)
in_braces before comment operand = option_and_then (λ end. with_number before comment Set operand (end + 1)) (position (λ b. b == 125) operand)

abbrev pub of_names : List ℕ → List ℕ → List ℕ → Option (List ℕ)
of_names before comment operand = let closed = without_blanks operand in with_number before comment Joined closed (position_or_len (λ b. not (is_in_names b)) closed)

-- A set begins with `{`, and other names begin with A to Z.
abbrev pub form_of : List ℕ → Option Form
form_of operand = if get_or operand 0 0 == 123 then Some Set else if is_ascii_uppercase (get_or operand 0 0) then Some Joined else None

abbrev pub set_as : Option Form → List ℕ → List ℕ → List ℕ → List ℕ → Renamed
set_as None line before comment operand = kept line
set_as (Some Set) line before comment operand = renamed_as line (in_braces before comment operand)
set_as (Some Joined) line before comment operand = renamed_as line (of_names before comment operand)

-- the line that replaces a line `set`
unfoldable pub set_named : List ℕ → Renamed
set_named line =
    let code = before_comment line in
    let operand = from_word (behind_second code) in
    set_as (form_of operand) line (take (length code - length operand) code) (drop (length code) line) operand
