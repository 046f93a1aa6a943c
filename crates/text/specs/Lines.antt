-- The lines of a text: a line feed ends each, but the last may lack it.
use Rattle.std.specs.Prelude.{ℕ, ◌==◌, List, [], ◌∷◌, ◌++◌, if◌then◌else◌, Option, Some, None}
use Rattle.std.specs.List.{after_first, before_first}

-- the complete lines, and what follows the last line feed
pub record Lines : Type 0 where
  pub whole : List (List ℕ)
  pub rest : List ℕ

-- one line before others
abbrev pub after_line : List ℕ → Lines → Lines
after_line line ls = record ls { whole = line ∷ ls.whole }

-- the lines of a text; `begun` is the part of its first line that was read
abbrev pub lines_from : List ℕ → List ℕ → Lines
lines_from begun [] = record { whole = []; rest = begun }
lines_from begun (b ∷ bs) = if b == 10 then after_line begun (lines_from [] bs) else lines_from (begun ++ b ∷ []) bs

-- the lines of a text
abbrev pub lines_of : List ℕ → Lines
lines_of text = lines_from [] text

-- a line or a word that has begun, if it has any byte
abbrev pub closed : List ℕ → List (List ℕ)
closed [] = []
closed (b ∷ bs) = (b ∷ bs) ∷ []

-- All lines, including a last line without a line feed. A line feed at the end does not begin another line.
abbrev pub all_lines : List ℕ → List (List ℕ)
all_lines text = (lines_of text).whole ++ closed (lines_of text).rest

-- the first line; `None` if the text is empty
abbrev pub first_line : List ℕ → Option (List ℕ)
first_line [] = None
first_line (b ∷ bs) = Some (before_first (λ b. b == 10) (b ∷ bs))

-- what follows the first line
abbrev pub behind_line : List ℕ → List ℕ
behind_line text = after_first (λ b. b == 10) text
