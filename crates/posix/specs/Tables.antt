-- The process table: a list of processes in ascending order of process ID, and operations on it.
use Rattle.std.specs.Prelude.{◌≡◌, ℕ, ◌<◌, ◌==◌, Bool, false, ◌||◌, not, if◌then◌else◌, nat_le, nat_lt, List, [], ◌∷◌, map, filter, find, Option, Some, None, IfSome, IsSome}
use Rattle.std.specs.Option.{option_map_or}
use Rattle.std.specs.List.{AllByRecursion}
use Rattle.posix.specs.Processes.{Process}

-- The process IDs are in ascending order, without duplicates.
unfoldable pub IsRising : List Process → Type 0
IsRising [] = Unit {0}
IsRising (r ∷ rs) = AllByRecursion (λ q. r.pid < q.pid) rs × IsRising rs

-- ---- one record

abbrev pub has_pid : ℕ → Process → Bool
has_pid p r = r.pid == p

unfoldable pub lookup : ℕ → List Process → Option Process
lookup p rs = find (has_pid p) rs

abbrev pub at : ℕ → (Process → Process) → Process → Process
at p f r = if r.pid == p then f r else r

-- Changes the record of p by f.
unfoldable pub changed : ℕ → (Process → Process) → List Process → List Process
changed p f rs = map (at p f) rs

unfoldable pub inserted : Process → List Process → List Process
inserted new [] = new ∷ []
inserted new (r ∷ rs) = if nat_lt new.pid r.pid then new ∷ r ∷ rs else r ∷ inserted new rs

unfoldable pub removed : ℕ → List Process → List Process
removed p rs = filter (λ r. not (r.pid == p)) rs

abbrev pub pids : List Process → List ℕ
pids rs = map (λ r. r.pid) rs

-- Returns the process ID of the first record, which is the lowest, or None if there is no record.
abbrev pub first_pid : List Process → Option ℕ
first_pid [] = None
first_pid (r ∷ rs) = Some r.pid

abbrev pub above : ℕ → List Process → List Process
above n rs = filter (λ r. nat_lt n r.pid) rs

-- Returns the lowest process ID above n, if any.
unfoldable pub next_above : ℕ → List Process → Option ℕ
next_above n rs = first_pid (above n rs)

-- ---- children

abbrev pub is_child : ℕ → Process → Bool
is_child p r = r.parent == p

-- Returns the children of p, zombies included, XBD 3 Child Process.
unfoldable pub children_in : ℕ → List Process → List Process
children_in p rs = filter (is_child p) rs

abbrev pub parent_of : ℕ → List Process → ℕ
parent_of p rs = option_map_or (λ r. r.parent) (lookup p rs) 0

abbrev pub reparented : ℕ → ℕ → Process → Process
reparented from to r = if r.parent == from then record r { parent = to } else r

-- Reparents the children of one process to another.
unfoldable pub adopted : ℕ → ℕ → List Process → List Process
adopted from to rs = map (reparented from to) rs

-- ---- members

abbrev pub is_member : ℕ → Process → Bool
is_member group r = r.group == group

-- Returns the members of a process group, zombies included, XBD 3 Process Group.
unfoldable pub members_in : ℕ → List Process → List Process
members_in group rs = filter (is_member group) rs

-- ---- walks in ascending order of process ID

-- Returns the rest of the list, from the next process ID on.
abbrev pub left_of : Option ℕ → List Process → List Process
left_of None rs = []
left_of (Some n) rs = filter (λ r. nat_le n r.pid) rs

-- The next process after n exists, and no process between them passes the test. If there is no next process, no
-- process above n passes the test. The next process itself may fail it.
pub record IsNext (test : Process → Bool) (n : ℕ) (rs : List Process) (next : Option ℕ) : Type 0 where
  pub there : IfSome next (λ q. IsSome (lookup q rs))
  pub above : IfSome next (λ q. n < q)
  pub between : (q : ℕ) (r : Process) → lookup q rs ≡ Some r → n < q → IfSome next (λ m. q < m) → test r ≡ false

-- ---- IDs in use

-- Returns true if r keeps the ID n in use, as a process, process group or session ID, even if r is a zombie.
abbrev pub bears : ℕ → Process → Bool
bears n r = r.pid == n || r.group == n || r.session == n
