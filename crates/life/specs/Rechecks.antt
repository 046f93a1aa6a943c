-- The recheck list: the processes to be tested, after this event, for whether they are runnable.
use Rattle.std.specs.Prelude.{◌≡◌, ℕ, ◌+◌, ◌*◌, Bool, true, false, not, ◌||◌, ◌&&◌, ◌==◌, if◌then◌else◌, List, [], ◌∷◌, Option, Some, None, ℤ}
use Rattle.posix.specs.declared.process.Blocked.{Blocked}
use Rattle.posix.specs.declared.process.Blocked.TheVariants as blocked
use Rattle.posix.specs.declared.process.Effect.{Effect}
use Rattle.posix.specs.declared.process.Effect.TheVariants as effect
use Rattle.posix.specs.declared.process.PendingSignal.{PendingSignal}
use Rattle.posix.specs.declared.target.Target.{Target}
use Rattle.posix.specs.declared.target.Target.TheVariants as whom
use Rattle.posix.specs.Common.{CONT, is_realtime, Process, argument, is_named, reports, asked, lookup, pids, members_in, from_kernel, is_in, without, effect_of, signalled, generated_for, resumed, permitted}
use Rattle.posix.specs.declared.waits.Asked.{Asked}
use Rattle.jobs.specs.IndexedTables.{takes_signal}
use Rattle.pidset.specs.Numbers.{with_number}
use Rattle.life.specs.Machines.{MachineView}

-- these numbers inserted
unfoldable pub with_numbers : List ℕ → List ℕ → List ℕ
with_numbers [] ns = ns
with_numbers (p ∷ ps) ns = with_number p (with_numbers ps ns)

-- p has changed, but not its position in the run queue: if it has none, it is listed
abbrev pub rechecking : ℕ → List ℕ → List ℕ → List ℕ
rechecking p order ns = if is_in p order then ns else with_number p ns

-- an existing parent is listed if it is not in the run queue; number 0 is no parent
abbrev pub with_parent : ℕ → List ℕ → List ℕ → List ℕ
with_parent parent order ns = if parent == 0 then ns else rechecking parent order ns

-- a child has changed in what its parent sees: both are listed
abbrev pub rechecking_changed : Process → List ℕ → List ℕ → List ℕ
rechecking_changed r order ns = with_parent r.parent order (with_number r.pid ns)

-- Only the signals of an existing process have changed: it is listed if one is chosen for it and it is not in the run
-- queue. If none is chosen, it cannot have become runnable.
abbrev pub rechecking_by_signals : Option Process → List ℕ → List ℕ → List ℕ
rechecking_by_signals None order ns = ns
rechecking_by_signals (Some r) order ns = if takes_signal r then rechecking r.pid order ns else ns

-- its call is a wait for a child
abbrev pub is_in_wait : Option Blocked → Bool
is_in_wait None = false
is_in_wait (Some (blocked.Wait call)) = true
is_in_wait (Some blocked.Read) = false
is_in_wait (Some blocked.Pause) = false
is_in_wait (Some (blocked.Sigsuspend mask)) = false

-- a wait that asks this, by a caller in this process group, selects the child and would report it
abbrev pub awaits_asked : ℕ → Option Asked → Process → Bool
awaits_asked group None child = false
awaits_asked group (Some a) child = is_named group a.target child && reports a.options.0 child

-- what the wait asks that a process is in, if it is in one, by its first three arguments
abbrev pub asked_with : Option Blocked → ℤ → ℤ → ℤ → Option Asked
asked_with None r1 r2 r3 = None
asked_with (Some (blocked.Wait call)) r1 r2 r3 = asked call r1 r2 r3
asked_with (Some blocked.Read) r1 r2 r3 = None
asked_with (Some blocked.Pause) r1 r2 r3 = None
asked_with (Some (blocked.Sigsuspend mask)) r1 r2 r3 = None

abbrev pub asked_in : Process → Option Blocked → Option Asked
asked_in me b = asked_with b (argument me 1) (argument me 2) (argument me 3)

-- A process is blocked in a wait that selects this child and would report it.
unfoldable pub awaits : Process → Process → Bool
awaits me child = awaits_asked me.group (asked_in me me.blocked) child

-- A child has stopped or continued, and its parent, if it has one, was notified. The child is listed. Its parent is
-- listed if it is not in the run queue, and waits for just this child or has a chosen signal. Otherwise the parent
-- cannot have become runnable. Both processes are as they are afterwards.
abbrev pub rechecking_told : Process → Option Process → List ℕ → List ℕ → List ℕ
rechecking_told child None order ns = with_number child.pid ns
rechecking_told child (Some parent) order ns = if awaits parent child || takes_signal parent then rechecking parent.pid order (with_number child.pid ns) else with_number child.pid ns

-- the same in a machine
abbrev pub rechecks : ℕ → MachineView → List ℕ
rechecks p m = rechecking p m.state.order m.to_recheck

abbrev pub rechecks_by_signals : Option Process → MachineView → List ℕ
rechecks_by_signals o m = rechecking_by_signals o m.state.order m.to_recheck

abbrev pub rechecks_changed : Process → MachineView → List ℕ
rechecks_changed r m = rechecking_changed r m.state.order m.to_recheck

-- a signal continues a child, or has no effect at once; these are the processes afterwards
abbrev pub rechecking_effect : Effect → Process → List Process → List ℕ → List ℕ → List ℕ
rechecking_effect effect.Nothing r rs order ns = ns
rechecking_effect effect.Continued r rs order ns = rechecking_told (resumed r) (lookup r.parent rs) order ns

-- a signal was generated for this one of the processes
abbrev pub rechecking_generated : PendingSignal → Option Process → List Process → List ℕ → List ℕ → List ℕ
rechecking_generated signal None rs order ns = ns
rechecking_generated signal (Some r) rs order ns = rechecking_effect (effect_of r.pid r.life signal r.signals) (signalled signal r) (generated_for signal (Some r) rs) order (rechecking_by_signals (Some (signalled signal r)) order ns)

-- and for several of the processes, one after another
unfoldable pub rechecking_all : PendingSignal → List ℕ → List Process → List ℕ → List ℕ → List ℕ
rechecking_all signal [] rs order ns = ns
rechecking_all signal (p ∷ ps) rs order ns = rechecking_all signal ps (generated_for signal (lookup p rs) rs) order (rechecking_generated signal (lookup p rs) rs order ns)

-- a signal was sent to those of the processes that may be signalled; signal 0 only checks
unfoldable pub rechecking_signalled : Process → Option PendingSignal → List Process → List Process → List ℕ → List ℕ → List ℕ
rechecking_signalled me None qs rs order ns = ns
rechecking_signalled me (Some signal) qs rs order ns = rechecking_all signal (pids (permitted me (Some signal.sig) qs)) rs order ns

-- a signal of the kernel was generated for the members of a process group
abbrev pub rechecking_members : ℕ → ℕ → List Process → List ℕ → List ℕ → List ℕ
rechecking_members n group rs order ns = rechecking_all (record { sig = n; carried = from_kernel }) (pids (members_in group rs)) rs order ns

-- a signal is chosen for each of these
abbrev pub AreTaking : List Process → List ℕ → Type 0
AreTaking rs ns = (p : ℕ) → is_in p ns ≡ true → (r : Process) × (lookup p rs ≡ Some r) × (takes_signal r ≡ true)

-- No child has to be looked at to find whether each of these is runnable: a signal is chosen for it, or it waits for
-- none.
abbrev pub NeedNoChild : List Process → List ℕ → Type 0
NeedNoChild rs ns = (p : ℕ) → is_in p ns ≡ true → (r : Process) × (lookup p rs ≡ Some r) × ((takes_signal r || not (is_in_wait r.blocked)) ≡ true)

-- none of these waits for a child
abbrev pub WaitForNoChild : List Process → List ℕ → Type 0
WaitForNoChild rs ns = (p : ℕ) → is_in p ns ≡ true → (r : Process) × (lookup p rs ≡ Some r) × (is_in_wait r.blocked ≡ false)

-- how many slots are read when a signal is generated: SIGCONT may continue the process, whose parent is notified
abbrev pub slots_of_signal : ℕ → ℕ
slots_of_signal n = if n == CONT then 3 else 1

-- none for signal 0
abbrev pub slots_of_send : Option ℕ → ℕ
slots_of_send None = 0
slots_of_send (Some n) = slots_of_signal n

-- how many slots are read, before a real-time signal is queued, for the process with one ID, and for so many candidates
abbrev pub slots_of_survey_of_one : Option ℕ → ℕ
slots_of_survey_of_one None = 0
slots_of_survey_of_one (Some n) = if is_realtime n then 2 else 0

abbrev pub slots_of_survey : Option ℕ → ℕ → ℕ
slots_of_survey None many = 0
slots_of_survey (Some n) many = if is_realtime n then 1 + 3 * many else 0

-- at most one process is selected, by its ID
abbrev pub is_one : Target → Bool
is_one (whom.Process p) = true
is_one whom.OwnGroup = false
is_one (whom.Group p) = false
is_one whom.All = false
is_one whom.Nobody = true

-- a candidate, which the sender looks at: each member of a process group that is selected, otherwise each process
abbrev pub is_candidate : Process → Target → Process → Bool
is_candidate me (whom.Process p) r = true
is_candidate me whom.OwnGroup r = r.group == me.group
is_candidate me (whom.Group p) r = r.group == p
is_candidate me whom.All r = true
is_candidate me whom.Nobody r = true

-- the record of p was removed: its parent is listed if it is not in the run queue, and p no longer is
abbrev pub without_gone : ℕ → ℕ → List ℕ → List ℕ → List ℕ
without_gone p parent order ns = without p (rechecking parent order ns)
