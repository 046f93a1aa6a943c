-- The new parent of a terminating process's children: child subreapers, PR_SET_CHILD_SUBREAPER in prctl(2).
use Rattle.std.specs.Prelude.{ℕ, zero, suc, ◌==◌, ◌&&◌, not, Bool, if◌then◌else◌, List, Option, Some, None, option_and_then}
use Rattle.std.specs.Option.{option_map_or}
use Rattle.posix.specs.Processes.{Process, is_zombie}
use Rattle.posix.specs.Tables.{lookup}

-- A living process as an ancestor: whether it is a child subreaper, and its parent.
pub record Forebear : Type 0 where
  pub is_marked : Bool
  pub parent : ℕ

-- A bound on the number of ancestors of a process: no process ID is larger.
abbrev pub most_processes : ℕ
most_processes = 2147483647

-- Returns the first child subreaper other than p, from q upwards through at most n processes, or process 1 if there
-- is none.
-- The bound makes the walk terminate for any records. It is never reached, because a parent is created before its
-- children. The test against p skips p itself, at which the walk begins, so p is never its own children's new parent.
-- A law that no process is its own ancestor would be one more part of every regular state, and of
-- what the lines of a trace say.
unfoldable pub nearest_marked : (ℕ → Option Forebear) → ℕ → ℕ → ℕ → ℕ
nearest_marked living p zero q = 1
nearest_marked living p (suc n) q = option_map_or (λ f. if f.is_marked && not (q == p) then q else nearest_marked living p n f.parent) (living q) 1

-- Returns the new parent of p's children, given the processes that live before p terminates: the nearest ancestor
-- that is a child subreaper, or process 1. Process 1 keeps its own children.
abbrev pub heir_among : (ℕ → Option Forebear) → ℕ → ℕ
heir_among living p = if p == 1 then 1 else nearest_marked living p most_processes p

-- ---- in the process table

abbrev pub forebear_of : Process → Option Forebear
forebear_of r = if is_zombie r.life then None else Some (record { is_marked = r.is_subreaper; parent = r.parent })

abbrev pub forebears : List Process → ℕ → Option Forebear
forebears rs p = option_and_then forebear_of (lookup p rs)

-- Returns the new parent of p's children.
abbrev pub heir_in : List Process → ℕ → ℕ
heir_in rs p = heir_among (forebears rs) p
