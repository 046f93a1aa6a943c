-- The run queue: its processes in order, and for which IDs there is room.
use Rattle.std.specs.Prelude.{ℕ, ◌==◌, List, [], ◌∷◌, Option, None, cond, slice_get}

-- the process IDs in order, and for how many IDs of each page there is room
pub record Places : Type 0 where
  pub pids : List ℕ
  pub sizes : List ℕ

-- the process after p; none after the last one, or if p isn't in the list
unfoldable pub next_behind : ℕ → List ℕ → Option ℕ
next_behind p [] = None
next_behind p (q ∷ qs) = cond (q == p) (slice_get qs 0) (next_behind p qs)
