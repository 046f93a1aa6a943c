-- How many processes use each ID, by role.
use Rattle.std.specs.Prelude.{◌≡◌, ℕ, ◌+◌, ◌-◌, ◌*◌, ◌<◌, ◌≤◌, ◌/◌, Bool, true, false, not, if◌then◌else◌, ◌&&◌, ◌==◌, nat_lt, List, [], length, map, replicate, count_by, slice_index_or, slice_set}
use Rattle.std.specs.List.{range_with_len}
use Rattle.pidset.specs.Rows.{row_or, sizes_of}
pub use Rattle.pidalloc.specs.declared.row.Row.{Row}
pub use Rattle.pidalloc.specs.declared.row.Role.{Role}
pub use Rattle.pidalloc.specs.declared.row.Role.TheVariants.{Process, Group, Session}

-- the largest ID, the last one given out, the row of each ID from 0 on, and for how many IDs of each page there is room
pub record Pids : Type 0 where
  pub pidmax : ℕ
  pub last : ℕ
  pub rows : List Row
  pub sizes : List ℕ

-- what holds of every table
pub record IsPids (p : Pids) : Type 0 where
  pub size : length p.rows ≡ p.pidmax + 1
  pub given : p.last ≤ p.pidmax
  pub least : 2 ≤ p.pidmax
  pub limit : p.pidmax ≤ 4194304

-- ---- one row

abbrev pub unborne : Row
unborne = record { process = 0; group = 0; session = 0 }

abbrev pub is_free_row : Row → Bool
is_free_row r = (r.process == 0) && (r.group == 0) && (r.session == 0)

-- the ID of the row is in use
abbrev pub is_borne : Row → Bool
is_borne r = not (is_free_row r)

abbrev pub count_of : Role → Row → ℕ
count_of Process r = r.process
count_of Group r = r.group
count_of Session r = r.session

abbrev pub one_more : Role → Row → Row
one_more Process r = record r { process = r.process + 1 }
one_more Group r = record r { group = r.group + 1 }
one_more Session r = record r { session = r.session + 1 }

abbrev pub one_less : Role → Row → Row
one_less Process r = record r { process = r.process - 1 }
one_less Group r = record r { group = r.group - 1 }
one_less Session r = record r { session = r.session - 1 }

-- ---- the table

abbrev pub unborne_table : ℕ → Pids
unborne_table pidmax = record { pidmax = pidmax; last = 1; rows = replicate (pidmax + 1) unborne; sizes = [] }

abbrev pub row : List Row → ℕ → Row
row rows n = slice_index_or rows n unborne

-- the ID n is free
unfoldable pub is_free_in : List Row → ℕ → Bool
is_free_in rows n = is_free_row (row rows n)

abbrev pub with_row : List Row → ℕ → (Row → Row) → List Row
with_row rows n f = slice_set rows n (f (row rows n))

-- only a process ID is given out
abbrev pub last_given : Role → ℕ → ℕ → ℕ
last_given Process n last = n
last_given Group n last = last
last_given Session n last = last

unfoldable pub borne : Pids → ℕ → Role → Pids
borne p n role = record p { last = last_given role n p.last; rows = with_row p.rows n (one_more role) }

unfoldable pub given_up : Pids → ℕ → Role → Pids
given_up p n role = record p { rows = with_row p.rows n (one_less role) }

-- the table after a process with these IDs is created
unfoldable pub born_in : Pids → ℕ → ℕ → ℕ → Pids
born_in p n group session = borne (borne (borne p n Process) group Group) session Session

-- the table after a process that had these IDs is removed
unfoldable pub gone_from : Pids → ℕ → ℕ → ℕ → Pids
gone_from p n group session = given_up (given_up (given_up p n Process) group Group) session Session

-- the table after a process moves from one process group and session to others
unfoldable pub regrouped : Pids → ℕ → ℕ → ℕ → ℕ → Pids
regrouped p group session to_group to_session = given_up (given_up (borne (borne p to_group Group) to_session Session) group Group) session Session

-- ---- rows in pages

-- the row of an ID
unfoldable pub row_in : List (List Row) → ℕ → Row
row_in pages n = row_or unborne pages n

-- the rows of all IDs up to the largest one
unfoldable pub rows_in : ℕ → List (List Row) → List Row
rows_in pidmax pages = map (row_in pages) (range_with_len 0 (pidmax + 1))

-- what one ID adds to a count: 1 if it is counted, otherwise 0
abbrev pub one : Bool → ℕ
one b = if b then 1 else 0

-- how many IDs of a page are in use; it isn't unfolded automatically, so that no proof writes out the 1,024 IDs
unfoldable pub borne_on : List (List Row) → ℕ → ℕ
borne_on pages k = count_by is_borne (map (row_in pages) (range_with_len (k * 1024) 1024))

-- there is room for an ID if it has a row and each page has a count
abbrev pub sizes_in : ℕ → List ℕ → List (List Row) → List ℕ
sizes_in pidmax counts pages = if nat_lt (pidmax / 1024) (length counts) then sizes_of pages else []

-- each ID from `from` on and below `end` is in use
abbrev pub AreAllBorne : List (List Row) → ℕ → ℕ → Type 0
AreAllBorne pages from end = (k : ℕ) → from ≤ k → k < end → is_free_row (row_in pages k) ≡ false

-- no ID above the largest is in use
abbrev pub AreUnborneAbove : ℕ → List (List Row) → Type 0
AreUnborneAbove pidmax pages = (k : ℕ) → pidmax < k → is_free_row (row_in pages k) ≡ true

-- what holds of a table: its IDs are in range, the counts of the pages are right, the IDs from 2 on below borne_below
-- and those from borne_from on are in use, and none above the largest
pub record IsTable (pidmax last : ℕ) (pages : List (List Row)) (counts : List ℕ) (borne_below borne_from : ℕ) : Type 0 where
  pub given : last ≤ pidmax
  pub least : 2 ≤ pidmax
  pub limit : pidmax ≤ 4194304
  pub counted : (k : ℕ) → slice_index_or counts k 0 ≡ borne_on pages k
  pub bound : borne_below ≤ pidmax + 1
  pub low : AreAllBorne pages 2 borne_below
  pub high : AreAllBorne pages borne_from (pidmax + 1)
  pub beyond : AreUnborneAbove pidmax pages

-- the row of n changed by f, and no other row changed
abbrev pub IsRowChanged : ℕ → (Row → Row) → List (List Row) → List (List Row) → Type 0
IsRowChanged n f old new = (q : ℕ) → row_in new q ≡ if n == q then f (row_in old n) else row_in old q
