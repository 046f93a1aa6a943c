-- The words of a line, and names.
use Rattle.std.specs.Prelude.{ℕ, length, ◌==◌, ◌&&◌, ◌||◌, Bool, false, not, List, [], ◌∷◌, ◌++◌, drop, if◌then◌else◌, nat_le}
use Rattle.std.specs.List.{before_first, list_all, position_or_len}
use Rattle.text.specs.Lines.{closed}

-- space, tab, carriage return and comma separate words
abbrev pub is_separator : ℕ → Bool
is_separator b = (b == 32) || (b == 9) || (b == 13) || (b == 44)

-- `#` and what follows it is skipped
abbrev pub before_comment : List ℕ → List ℕ
before_comment line = before_first (λ b. b == 35) line

-- the words of the rest of a line; `begun` is the part of its first word that was read
abbrev pub words_from : List ℕ → List ℕ → List (List ℕ)
words_from begun [] = closed begun
words_from begun (b ∷ bs) = if is_separator b then closed begun ++ words_from [] bs else words_from (begun ++ b ∷ []) bs

-- the words of a text
abbrev pub words : List ℕ → List (List ℕ)
words bs = words_from [] bs

-- a text without the separators at its start
abbrev pub from_word : List ℕ → List ℕ
from_word text = drop (position_or_len (λ b. not (is_separator b)) text) text

-- the first word of a text, and below, what follows that word
abbrev pub first_word : List ℕ → List ℕ
first_word text = before_first is_separator (from_word text)

abbrev pub behind_word : List ℕ → List ℕ
behind_word text = drop (position_or_len is_separator (from_word text)) (from_word text)

-- the words of a line
abbrev pub line_words : List ℕ → List (List ℕ)
line_words line = words (before_comment line)

-- a to z
abbrev pub is_letter : ℕ → Bool
is_letter b = nat_le 97 b && nat_le b 122

-- a to z, 0 to 9, `_`
abbrev pub is_name_byte : ℕ → Bool
is_name_byte b = is_letter b || (nat_le 48 b && nat_le b 57) || (b == 95)

-- a letter a to z, and then at most 15 letters, digits and `_`
abbrev pub is_name : List ℕ → Bool
is_name [] = false
is_name (b ∷ bs) = is_letter b && nat_le (length bs) 15 && list_all is_name_byte bs
