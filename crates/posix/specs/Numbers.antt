-- Lists of numbers in ascending order, without duplicates.
use Rattle.std.specs.Prelude.{ℕ, ◌==◌, if◌then◌else◌, nat_lt, List, [], ◌∷◌}

-- Inserts n at its place in the list, unless the list already contains n.
unfoldable pub with_number : ℕ → List ℕ → List ℕ
with_number n [] = n ∷ []
with_number n (m ∷ ms) = if nat_lt n m then n ∷ m ∷ ms else if n == m then m ∷ ms else m ∷ with_number n ms
