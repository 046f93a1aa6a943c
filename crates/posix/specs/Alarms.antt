-- Alarms, XSH alarm.
use Rattle.std.specs.Prelude.{ℕ, ◌+◌, ◌-◌, ◌==◌, Bool, false, if◌then◌else◌, nat_le, is_some, List, map, Option, Some, None, ℤ, pos, negsuc}
use Rattle.std.specs.List.{list_any}
use Rattle.posix.specs.declared.errno.Errno.TheVariants.{EINVAL}
use Rattle.posix.specs.declared.process.PendingSignal.{PendingSignal}
use Rattle.posix.specs.SignalNumbers.{ALRM}
use Rattle.posix.specs.Processes.{Process, argument}
use Rattle.posix.specs.States.{State}
use Rattle.posix.specs.Outcomes.{Reply, refusing}
use Rattle.posix.specs.Generation.{signalled}
use Rattle.posix.specs.Choice.{from_kernel}

-- The maximum number of ticks of an alarm (own).
abbrev pub most_ticks : ℕ
most_ticks = 1000000000

unfoldable pub with_alarm : Option ℕ → Process → Process
with_alarm due r = record r { alarm = due }

-- ---- the call

-- Returns the ticks until the alarm is due, or 0 if none is set.
abbrev pub ticks_left : ℕ → Option ℕ → ℕ
ticks_left now None = 0
ticks_left now (Some due) = due - now

-- Returns the tick at which an alarm of n ticks is due; 0 clears the alarm.
abbrev pub due_in : ℕ → ℕ → Option ℕ
due_in now n = if n == 0 then None else Some (now + n)

-- Returns the ticks that a register asks for: 0 to most_ticks (own).
abbrev pub ticks_in : ℤ → Option ℕ
ticks_in (pos n) = if nat_le n most_ticks then Some n else None
ticks_in (negsuc n) = None

abbrev pub alarm_in : ℕ → Process → Option ℕ → Reply
alarm_in now me None = refusing EINVAL
alarm_in now me (Some n) = record { value = pos (ticks_left now me.alarm); changes = with_alarm (due_in now n) }

-- Attempts alarm: sets the alarm to r1 ticks from now, and returns the ticks that were left of the previous one in r0.
unfoldable pub alarm : State → Process → Reply
alarm s me = alarm_in s.ticks me (ticks_in (argument me 1))

-- ---- clock ticks

abbrev pub is_due : ℕ → Option ℕ → Bool
is_due now None = false
is_due now (Some due) = due == now

abbrev pub alarm_signal : PendingSignal
alarm_signal = record { sig = ALRM; carried = from_kernel }

-- Clears the alarm, and generates SIGALRM. The alarm is cleared even if no signal is generated.
unfoldable pub rung : Process → Process
rung r = with_alarm None (signalled alarm_signal r)

abbrev pub ring_at : ℕ → Process → Process
ring_at now r = if is_due now r.alarm then rung r else r

-- Returns true if a process has an alarm.
abbrev pub has_alarms : State → Bool
has_alarms s = list_any (λ r. is_some r.alarm) s.processes

-- Each alarm that is due goes off.
unfoldable pub ring_all : ℕ → List Process → List Process
ring_all now rs = map (ring_at now) rs

-- Advances the clock by one tick, at which due alarms go off.
abbrev pub pass_time : State → State
pass_time s = record s { ticks = s.ticks + 1; processes = ring_all (s.ticks + 1) s.processes }
