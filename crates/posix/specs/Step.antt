-- One event of the machine.
use Rattle.std.specs.Prelude.{◌≡◌, ℕ, Bool, if◌then◌else◌, List, [], ◌∷◌, Option, Some, None, slice_get, ℤ}
use Rattle.posix.specs.declared.instr.Instr.{Instr}
use Rattle.posix.specs.declared.instr.Trap.{Trap}
use Rattle.posix.specs.declared.instr.Trap.TheVariants as trap
use Rattle.posix.specs.declared.event.Event.{Event}
use Rattle.posix.specs.declared.event.Event.TheVariants.{Step, Tick, Key, Hangup}
use Rattle.posix.specs.declared.entry.Entry.{Entry}
use Rattle.posix.specs.declared.entry.Entry.TheVariants.{Noted}
use Rattle.posix.specs.declared.process.Blocked.{Blocked}
use Rattle.posix.specs.declared.process.Blocked.TheVariants as blocked
use Rattle.posix.specs.Statuses.{killed}
use Rattle.posix.specs.SignalNumbers.{HUP, KILL}
use Rattle.posix.specs.SignalSets.{set_in}
use Rattle.posix.specs.Processes.{Process, Signals, Cpu, argument}
use Rattle.posix.specs.States.{Program, State, change, lose_place, go_last, current, current_process}
use Rattle.posix.specs.Execute.{exec_one}
use Rattle.posix.specs.Consoles.{Console, keyed, signal_typed, is_told, disconnected, console_at, with_console}
use Rattle.posix.specs.Outcomes.{Outcome, silent, Attempted, Done, Block, Again}
use Rattle.posix.specs.Alarms.{pass_time}
use Rattle.posix.specs.Attempts.{attempt, attempt_again}
use Rattle.posix.specs.Generation.{is_pending}
use Rattle.posix.specs.Choice.{chosen, from_kernel}
use Rattle.posix.specs.Notices.{signalled_all}
use Rattle.posix.specs.Handlers.{give_mask}
use Rattle.posix.specs.Ends.{end_process, signalled_group}
use Rattle.posix.specs.Delivery.{deliver, fault}
use Rattle.posix.specs.Settle.{settle}

-- ---- a step

unfoldable pub set_cpu : Cpu → Process → Process
set_cpu c r = record r { cpu = c }

-- sigsuspend replaces the signal mask with the set in r1.
abbrev pub waiting_signals : Blocked → ℤ → Signals → Signals
waiting_signals (blocked.Sigsuspend earlier) z g = give_mask (set_in z) g
waiting_signals _ z g = g

unfoldable pub enter : Blocked → Process → Process
enter b r = record r { blocked = Some b; signals = waiting_signals b (argument r 1) r.signals }

-- Begins a call. If the call blocks, the process leaves the run queue, with the pc at the call. A restarted call
-- begins again when the process next runs: the pc stays at the call, and the process keeps its
-- position in the run queue.
abbrev pub begin_call : State → Process → Attempted → Outcome
begin_call s r (Done outcome) = outcome
begin_call s r (Block b) = silent (lose_place (change s r.pid (enter b)) r.pid)
begin_call s r (Again t) = silent t

-- Returns the outcome of an instruction, by its trap.
unfoldable pub after_trap : Bool → State → Process → Cpu → Trap → Outcome
after_trap granted s r c trap.Next = silent (change s r.pid (set_cpu c))
after_trap granted s r c (trap.Note z) = record { state = change s r.pid (set_cpu c); entries = Noted r.pid z ∷ [] }
after_trap granted s r c (trap.Call call) = begin_call s r (attempt granted s r call)
after_trap granted s r c (trap.Fault sig) = fault s r sig

-- Delivers the chosen signal; if there is none, returns the other outcome.
abbrev pub deliver_or : State → Process → Option ℕ → Outcome → Outcome
deliver_or s r (Some n) other = deliver s r n
deliver_or s r None other = other

-- The process leaves its call.
unfoldable pub out_of_call : Process → Process
out_of_call r = record r { blocked = None }

-- A call that can complete goes before any signal but SIGKILL (own); in Linux, a wait goes before SIGKILL, too. If
-- the call still blocks, a signal is delivered; if there is none, the process leaves the run queue.
abbrev pub go_on : State → Process → Attempted → Outcome
go_on s r (Done outcome) = outcome
go_on s r (Again t) = silent (change t r.pid out_of_call)
go_on s r (Block b) = deliver_or s r (chosen r.life r.signals) (silent (lose_place s r.pid))

abbrev pub instructions : Option Program → List Instr
instructions None = []
instructions (Some program) = program.instructions

abbrev pub code_of : State → Process → List Instr
code_of s r = instructions (slice_get s.world.programs r.program)

-- Attempts the call of a blocked process again. For any other process, delivers a signal or, if there is none, runs
-- the instruction at the pc.
unfoldable pub act_in : Bool → State → Process → Option Blocked → Outcome
act_in granted s r (Some b) = go_on s r (attempt_again s r b)
act_in granted s r None =
    let done = exec_one (code_of s r) r.cpu in
    deliver_or s r (chosen r.life r.signals) (after_trap granted s r done.cpu done.trap)

-- SIGKILL goes before everything else (own).
unfoldable pub act : Bool → State → Process → Outcome
act granted s r = if is_pending r.signals KILL then end_process s r (killed KILL) else act_in granted s r r.blocked

-- Runs the current process for one step. Without a current process, nothing happens.
unfoldable pub step : Bool → State → Option Process → Outcome
step granted s None = silent s
step granted s (Some r) = act granted s r

-- ---- a tick

-- Moves the current process to the end of the run queue.
abbrev pub rotate : State → Option ℕ → State
rotate s None = s
rotate s (Some p) = go_last s p

-- Advances the clock, and preempts the current process. Alarms go off first (own).
unfoldable pub tick : State → State
tick s = rotate (pass_time s) (current s)

-- ---- a key

-- Generates the signal of a key for each member of the foreground process group.
abbrev pub signalled_from : Option ℕ → ℕ → List Process → List Process
signalled_from None group rs = rs
signalled_from (Some n) group rs = signalled_group n group rs

abbrev pub key_on : State → ℕ → ℕ → Option Console → State
key_on s console byte None = s
key_on s console byte (Some c) = record s {
  processes = signalled_from (signal_typed byte c) c.foreground s.processes;
  consoles = with_console console (keyed byte c) s.consoles;
}

-- Types a byte at a console. If the console doesn't exist, nothing happens.
unfoldable pub key : State → ℕ → ℕ → State
key s console byte = key_on s console byte (console_at console s.consoles)

-- ---- a hangup

-- Sends SIGHUP to the session leader, unless the console was already hung up or has no session.
abbrev pub with_leader_told : Console → List Process → List Process
with_leader_told c rs = if is_told c then signalled_all (record { sig = HUP; carried = from_kernel }) (c.session ∷ []) rs else rs

abbrev pub hangup_on : State → ℕ → Option Console → State
hangup_on s console None = s
hangup_on s console (Some c) = record s {
  processes = with_leader_told c s.processes;
  consoles = with_console console (disconnected c) s.consoles;
}

-- Hangs up a console. If the console doesn't exist, nothing happens.
unfoldable pub hangup : State → ℕ → State
hangup s console = hangup_on s console (console_at console s.consoles)

-- ---- an event

unfoldable pub happens : Bool → State → Event → Outcome
happens granted s Step = step granted s (current_process s)
happens granted s Tick = silent (tick s)
happens granted s (Key console byte) = silent (key s console byte)
happens granted s (Hangup console) = silent (hangup s console)

abbrev pub settled : Outcome → Outcome
settled o = record o { state = settle o.state }

-- After a halt, no event changes or prints anything.
unfoldable pub next : Bool → State → Event → Outcome
next granted s event = if s.halted then silent s else settled (happens granted s event)

-- From old, the event may print these entries and lead to new. Only one choice is open: whether the host grants the
-- memory that a fork, or the queuing of a real-time signal, needs.
pub record IsStep (old : State) (event : Event) (entries : List Entry) (new : State) : Type 0 where
  pub granted : Bool
  pub comes : next granted old event ≡ record { state = new; entries = entries }
