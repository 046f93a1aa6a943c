-- The lines of a text.
use Rattle.std.specs.Prelude.{◌≡◌, ℕ, ◌==◌, not, Bool, true, List, ◌∷◌, ◌++◌}
use Rattle.std.specs.List.{list_all}

-- Returns true if the text has no line feed.
abbrev pub is_one_line : List ℕ → Bool
is_one_line text = list_all (λ b. not (b == 10)) text

-- The text is cut at its first line feed.
pub record IsCut (text line rest : List ℕ) : Type 0 where
  pub is : text ≡ line ++ 10 ∷ rest
  pub one : is_one_line line ≡ true
