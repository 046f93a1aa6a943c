-- Process IDs in rising order, each once.
use Rattle.std.specs.Prelude.{◌≡◌, ℕ, ◌+◌, ◌<◌, ◌≤◌, if◌then◌else◌, nat_lt, List, [], ◌∷◌, filter, length, slice_get, Some, IfSome, Result, Ok, Err}
use Rattle.std.specs.List.{AllByRecursion}
unfoldable pub use Rattle.posix.specs.Numbers.{with_number}

unfoldable pub Rises : List ℕ → Type 0
Rises [] = Unit {0}
Rises (n ∷ ns) = AllByRecursion (λ m. n < m) ns × Rises ns

-- the numbers above n
abbrev pub numbers_above : ℕ → List ℕ → List ℕ
numbers_above n ns = filter (λ m. nat_lt n m) ns

-- n is at index i
abbrev pub IsNumberAt : List ℕ → ℕ → ℕ → Type 0
IsNumberAt ns n i = slice_get ns i ≡ Some n

-- n would be inserted at index i: lower numbers are before it, and a higher one is there
pub record IsInsertionPoint (ns : List ℕ) (n i : ℕ) : Type 0 where
  pub in_range : i ≤ length ns
  pub before : (j : ℕ) → j < i → IfSome (slice_get ns j) (λ m. m < n)
  pub after : IfSome (slice_get ns i) (λ m. n < m)

-- the index after that of an item, or that at which one would be inserted
abbrev pub index_behind : Result ℕ ℕ → ℕ
index_behind (Ok i) = i + 1
index_behind (Err i) = i

-- the items with one inserted, in rising order of their numbers
unfoldable pub inserted_in_order : {X : Type 0} → (X → ℕ) → X → List X → List X
inserted_in_order number new [] = new ∷ []
inserted_in_order number new (x ∷ xs) = if nat_lt (number new) (number x) then new ∷ x ∷ xs else x ∷ inserted_in_order number new xs

-- the IDs, and how many there is room for, including these
pub record PidSetView : Type 0 where
  pub pids : List ℕ
  pub room : ℕ
