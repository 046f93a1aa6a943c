-- At most how many slots of the table of processes an event reads.
use Rattle.std.specs.Prelude.{◌&&◌, ◌||◌, ◌==◌, not, Bool, false, option_map, count_by, ◌≡◌, ℕ, ◌+◌, ◌*◌, ◌≤◌, if◌then◌else◌, [], length, filter, Option, Some, None, is_some, IfSome}
use Rattle.posix.specs.declared.event.Event.{Event}
use Rattle.posix.specs.declared.event.Event.TheVariants.{Step, Tick, Key, Hangup}
use Rattle.posix.specs.declared.process.Blocked.{Blocked}
use Rattle.posix.specs.declared.waits.WaitCall.{WaitCall}
use Rattle.posix.specs.declared.process.Blocked.TheVariants as blocked
use Rattle.posix.specs.Common.{Process, is_due, State, change, current_process, chosen, KILL, wait_by, exec_one, IsRegular, IsSettled, is_block, code_of, set_cpu}
use Rattle.posix.specs.declared.call.Call.{Call}
use Rattle.posix.specs.declared.call.Call.TheVariants.{Waitpid, Waitid}
use Rattle.posix.specs.declared.instr.Trap.{Trap}
use Rattle.posix.specs.declared.instr.Trap.TheVariants as trap
use Rattle.life.specs.declared.consoles.Unchecked.TheVariants.{Nothing}
use Rattle.life.specs.Foregrounds.{is_unchecked}
use Rattle.life.specs.Consoles.{foreground_members}
use Rattle.calls.specs.Counts.{slots_of_rechecks}
use Rattle.calls.specs.Outcomes.{slots_of_brief}
use Rattle.life.specs.Machines.{MachineView}
use Rattle.life.specs.NotedBursts.{StepsTaken, most_notes, exec_with_notes}
use Rattle.kernel.specs.Steps.{is_followed_by_step, is_held, next_changes_one, next_enters, taken_at_once}

-- ---- after an event

-- to settle: one for each unchecked console, and those for rechecking
abbrev pub slots_of_settling : MachineView → ℕ
slots_of_settling m = count_by (is_unchecked m.foregrounds_unchecked) m.state.consoles + slots_of_rechecks m.state.processes None m.to_recheck

-- At most so many slots were read, with those that settling will read.
abbrev pub ReadsAtMost : ℕ → MachineView → MachineView → Type 0
ReadsAtMost most old new = new.visits + slots_of_settling new ≤ old.visits + most

-- Nothing is left to settle.
pub record IsAtRest (m : MachineView) : Type 0 where
  pub none : m.to_recheck ≡ []
  pub checked : m.foregrounds_unchecked ≡ Nothing
  pub settled : IsSettled m.state
  pub regular : IsRegular m.state

-- if there is a current process and no halt, at least one more slot was counted
abbrev pub CountsOne : (ℕ → ℕ) → State → ℕ → ℕ → Type 0
CountsOne more s old new = s.halted ≡ false → IfSome (current_process s) (λ me. more old ≤ new)

-- ---- a step

-- a process that begins a wait may block in it
abbrev pub slots_of_blocking : Call → ℕ
slots_of_blocking Waitpid = 1
slots_of_blocking Waitid = 1
slots_of_blocking call = 0

-- an instruction that comes out so: a wait, or a signal sent to one process or to no process
abbrev pub slots_of_trap : Process → Trap → Option ℕ
slots_of_trap me (trap.Call call) = option_map (λ n. n + slots_of_blocking call + 1) (slots_of_brief call me)
slots_of_trap me t = None

-- SIGKILL is chosen
abbrev pub is_kill : Option ℕ → Bool
is_kill None = false
is_kill (Some n) = n == KILL

-- a process that is blocked in a wait attempts it again, and then no signal is delivered to it
abbrev pub delivers_nothing : State → WaitCall → Process → Bool
delivers_nothing s call me = not (is_kill (chosen me.life me.signals)) && (not (is_some (chosen me.life me.signals)) || not (is_block (wait_by call s me)))

-- what a process in this call reads as it takes a step, besides its own snapshot, with what settling reads
abbrev pub slots_of_acting : State → Process → Option Blocked → Option ℕ
slots_of_acting s me None = if is_some (chosen me.life me.signals) then None else slots_of_trap me (exec_one (code_of s me) me.cpu).trap
slots_of_acting s me (Some (blocked.Wait call)) = if delivers_nothing s call me then Some 6 else None
slots_of_acting s me (Some b) = None

-- a step whose instruction changes only its process, or is a machine fault that enters a handler
abbrev pub slots_of_own_step : State → Option Process → Option ℕ
slots_of_own_step s me = if next_changes_one s me then Some 3 else if next_enters s me then Some 4 else None

-- any step
abbrev pub slots_of_step : State → Option Process → Option ℕ
slots_of_step s None = Some 3
slots_of_step s (Some me) = if is_some (slots_of_own_step s (Some me)) then slots_of_own_step s (Some me) else option_map (λ n. n + 1) (slots_of_acting s me me.blocked)

-- ---- an event

-- how many alarms are due at the next tick
abbrev pub alarms_due : State → ℕ
alarms_due s = length (filter (λ r. is_due (s.ticks + 1) r.alarm) s.processes)

-- At most so many slots are read in an event, if this is Some; no bound is given for other events. A step reads 3 if
-- its instruction changes only its process, and 4 if a machine fault enters a handler. It reads 7 if it sends a signal
-- to one process by its ID or to no process, a real-time signal 9, and SIGCONT 15; and 9 if it attempts a wait and
-- delivers no signal. A tick reads 2 for each alarm that is due, and a key 3 for each member of the console's
-- foreground process group. A hangup reads 4, and 2 for each such member.
abbrev pub slots_of_event : Event → State → Option ℕ
slots_of_event Step s = slots_of_step s (current_process s)
slots_of_event Tick s = Some (2 * alarms_due s)
slots_of_event (Key console byte) s = Some (3 * length (foreground_members console s))
slots_of_event (Hangup console) s = Some (4 + 2 * length (foreground_members console s))

-- ---- steps that are taken at once

-- the state after the steps that the current process takes at once, from the one after number before up to number last
abbrev pub after_taken : State → ℕ → ℕ → Option Process → State
after_taken s before last None = s
after_taken s before last (Some me) = if is_held me then s else change s me.pid (set_cpu (exec_with_notes (code_of s me) most_notes before last me.cpu).cpu)

-- They read two slots and lead to this state; the step that follows them, if one does, reads its own.
abbrev pub slots_of_taken : ℕ → StepsTaken → State → Option ℕ
slots_of_taken before taken s = if is_followed_by_step before taken.last taken.trap then option_map (λ n. n + 2) (slots_of_event Step s) else Some 2

-- after a halt they are one step, which does nothing
abbrev pub slots_of_steps : ℕ → ℕ → State → Option ℕ
slots_of_steps before last s =
    if s.halted then slots_of_event Step s else slots_of_taken before (taken_at_once s before last (current_process s)) (after_taken s before last (current_process s))
