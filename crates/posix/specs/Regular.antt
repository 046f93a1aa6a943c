-- Invariants of every state that the machine reaches; the type of a machine keeps them.
use Rattle.std.specs.Prelude.{◌≡◌, ◌≢◌, ◌⊎◌, ℕ, ◌≤◌, true, false, List, [], ◌∷◌, ◌+◌, ◌<◌, Option, Some, IfSome, length, slice_get}
use Rattle.posix.specs.Processes.{Process, is_zombie}
use Rattle.posix.specs.Tables.{IsRising, lookup, children_in}
use Rattle.posix.specs.States.{State, is_in}
use Rattle.posix.specs.Consoles.{Console}
use Rattle.posix.specs.Alarms.{most_ticks}

-- The IDs of a record are within their range.
pub record IsBounded (pidmax : ℕ) (r : Process) : Type 0 where
  pub least : 1 ≤ r.pid
  pub pid : r.pid ≤ pidmax
  pub group : r.group ≤ pidmax
  pub session : r.session ≤ pidmax
  pub group_least : 1 ≤ r.group
  pub session_least : 1 ≤ r.session

-- Process 1 exists, and has no parent.
pub record HasFirst (rs : List Process) : Type 0 where
  pub what : Process
  pub found : lookup 1 rs ≡ Some what
  pub parent : what.parent ≡ 0

-- A process in the run queue exists, and is not a zombie.
pub record IsPlaced (rs : List Process) (p : ℕ) : Type 0 where
  pub what : Process
  pub found : lookup p rs ≡ Some what
  pub living : is_zombie what.life ≡ false

-- A possible new parent of p's children: process 1, or another process that exists and is not a zombie.
abbrev pub CanInherit : List Process → ℕ → ℕ → Type 0
CanInherit rs p heir = (heir ≡ 1) ⊎ ((heir ≢ p) × IsPlaced rs heir)

-- The list has no duplicates.
unfoldable pub IsDistinct : List ℕ → Type 0
IsDistinct [] = Unit {0}
IsDistinct (p ∷ ps) = (is_in p ps ≡ false) × IsDistinct ps

-- A set alarm is due after now, at most most_ticks later.
abbrev pub IsAhead : ℕ → Option ℕ → Type 0
IsAhead now alarm = IfSome alarm (λ due. (now < due) × (due ≤ now + most_ticks))

-- The members of a process group are in one session. A process group with the ID of a process is in
-- that process's session.
pub record AreGrouped (rs : List Process) : Type 0 where
  pub one : (p q : ℕ) (r t : Process) → lookup p rs ≡ Some r → lookup q rs ≡ Some t → r.group ≡ t.group → r.session ≡ t.session
  pub own : (p q : ℕ) (r t : Process) → lookup p rs ≡ Some r → lookup q rs ≡ Some t → t.group ≡ p → t.session ≡ r.session

-- There are this many consoles, and a session has at most one.
pub record AreConsoles (many : ℕ) (cs : List Console) : Type 0 where
  pub count : length cs ≡ many
  pub apart : (i j : ℕ) (c d : Console) → slice_get cs i ≡ Some c → slice_get cs j ≡ Some d → c.session ≢ 0 → c.session ≡ d.session → i ≡ j

pub record IsRegular (s : State) : Type 0 where
  pub rising : IsRising s.processes
  pub bounded : (p : ℕ) (r : Process) → lookup p s.processes ≡ Some r → IsBounded s.world.pidmax r
  pub first : HasFirst s.processes
  pub placed : (p : ℕ) → is_in p s.order ≡ true → IsPlaced s.processes p
  pub distinct : IsDistinct s.order
  pub childless : (p : ℕ) (r : Process) → p ≢ 1 → lookup p s.processes ≡ Some r → is_zombie r.life ≡ true → children_in p s.processes ≡ []
  pub alarms : (p : ℕ) (r : Process) → lookup p s.processes ≡ Some r → IsAhead s.ticks r.alarm
  pub grouped : AreGrouped s.processes
  pub consoles : AreConsoles s.world.consoles s.consoles
