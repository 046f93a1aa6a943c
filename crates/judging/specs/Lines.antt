-- The lines of a text.
use Rattle.std.specs.Prelude.{zero, suc, ℕ, ◌+◌, ◌-◌, List, [], ◌∷◌, Option, None, Some, length, nat_lt, if◌then◌else◌}
use Rattle.std.specs.List.{slice_get}
use Rattle.text.specs.Lines.{all_lines}
use Rattle.text.specs.Words.{line_words}

-- the line with a number, from 1
abbrev pub line_of : ℕ → List ℕ → Option (List ℕ)
line_of number text = slice_get (all_lines text) (number - 1)

-- The number of the last line with words among the first `count` of these lines, which are numbered from `number` on.
-- If none of them has words, it is `found`.
abbrev pub last_worded : ℕ → ℕ → Option ℕ → List (List ℕ) → Option ℕ
last_worded zero number found lines = found
last_worded (suc count) number found [] = found
last_worded (suc count) number found (line ∷ lines) = last_worded count (number + 1) (if nat_lt 0 (length (line_words line)) then Some number else found) lines

-- the number of the last line that has words before the line with this number
abbrev pub last_with_words : ℕ → List ℕ → Option ℕ
last_with_words before text = last_worded (before - 1) 1 None (all_lines text)
