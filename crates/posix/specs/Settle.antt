-- What follows each event: foreground process groups without members are cleared, and runnable
-- processes enter the run queue.
use Rattle.std.specs.List.{AllByRecursion}
use Rattle.std.specs.Prelude.{◌≡◌, ℕ, ◌==◌, Bool, true, false, ◌&&◌, ◌||◌, not, is_some, if◌then◌else◌, List, [], ◌∷◌, ◌++◌, filter, map, Option, Some, None}
use Rattle.posix.specs.declared.process.Blocked.{Blocked}
use Rattle.posix.specs.SignalNumbers.{KILL}
use Rattle.posix.specs.Processes.{Process, is_running, is_living}
use Rattle.posix.specs.Tables.{pids}
use Rattle.posix.specs.States.{State, process, is_in, has_place}
use Rattle.posix.specs.Consoles.{Console, with_foreground}
use Rattle.posix.specs.Outcomes.{Attempted, Block}
use Rattle.posix.specs.Generation.{is_pending}
use Rattle.posix.specs.Choice.{chosen}
use Rattle.posix.specs.GroupCalls.{is_group_of}
use Rattle.posix.specs.Attempts.{attempt_again}

abbrev pub is_block : Attempted → Bool
is_block (Block b) = true
is_block _ = false

-- Returns true if the process is in no call, or if its call no longer blocks.
abbrev pub can_go_on : State → Process → Option Blocked → Bool
can_go_on s r None = true
can_go_on s r (Some b) = not (is_block (attempt_again s r b))

-- Returns true if the process is runnable: it is running, and can go on or has a signal to be delivered, or SIGKILL
-- is pending for it. A stopped process with a pending SIGKILL stays stopped until it is scheduled (own); in Linux, it
-- is dying as soon as SIGKILL is generated.
unfoldable pub can_act : State → Process → Bool
can_act s r =
    is_living r && is_pending r.signals KILL
    || is_running r.life && (can_go_on s r r.blocked || is_some (chosen r.life r.signals))

-- Returns true if the process is runnable, but not in the run queue.
abbrev pub wakes : State → Process → Bool
wakes s r = not (has_place s r.pid) && can_act s r

-- Appends the runnable processes that are not in the run queue, in ascending order of process ID. All processes are
-- checked. A process in the run queue that is no longer runnable keeps its position until it is scheduled (own). So,
-- of several readers, the first to be scheduled reads the line (own); in Linux, it is the reader that began first.
unfoldable pub give_places : State → State
give_places s = record s { order = s.order ++ pids (filter (wakes s) s.processes) }

-- Returns true if the console's foreground process group has a member in the console's session, or if the console has
-- no foreground process group.
abbrev pub is_fresh : List Process → Console → Bool
is_fresh rs c = c.foreground == 0 || is_group_of c.session c.foreground rs

-- Clears a foreground process group that has no member left in the console's session. In Linux, the group is in the
-- foreground again if its leader creates it again.
abbrev pub refreshed : List Process → Console → Console
refreshed rs c = if is_fresh rs c then c else with_foreground 0 c

unfoldable pub clear_foregrounds : State → State
clear_foregrounds s = record s { consoles = map (refreshed s.processes) s.consoles }

-- Clears foreground process groups first, and then appends to the run queue (own).
unfoldable pub settle : State → State
settle s = give_places (clear_foregrounds s)

-- Appends one process to the run queue, if it is runnable and not in the queue.
abbrev pub woken_if : State → Option Process → State
woken_if s None = s
woken_if s (Some r) = if wakes s r then record s { order = s.order ++ r.pid ∷ [] } else s

unfoldable pub woken : State → ℕ → State
woken s p = woken_if s (process s p)

-- The list contains each process that must enter the run queue.
abbrev pub Covers : State → List ℕ → Type 0
Covers s ps = (p : ℕ) (r : Process) → process s p ≡ Some r → wakes s r ≡ true → is_in p ps ≡ true

-- Each runnable process is in the run queue.
abbrev pub NoWakeIsLost : State → Type 0
NoWakeIsLost s = (p : ℕ) (r : Process) → process s p ≡ Some r → can_act s r ≡ true → has_place s p ≡ true

-- Each foreground process group has a member in its console's session.
abbrev pub AreFresh : State → Type 0
AreFresh s = AllByRecursion (λ c. is_fresh s.processes c ≡ true) s.consoles

-- A state between events: nothing is left to settle.
pub record IsSettled (s : State) : Type 0 where
  pub awake : NoWakeIsLost s
  pub fresh : AreFresh s
