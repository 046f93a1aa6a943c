-- Signals that processes send, XSH kill, XSH sigqueue and kill(2).
use Rattle.std.specs.Prelude.{ℕ, zero, suc, Bool, false, not, ◌&&◌, ◌||◌, ◌==◌, if◌then◌else◌, nat_le, List, [], ◌∷◌, filter, length, Option, Some, None, ℤ, pos, negsuc, Result, Ok, Err}
use Rattle.std.specs.List.{list_any}
use Rattle.posix.specs.declared.call.Call.{Call}
use Rattle.posix.specs.declared.call.Call.TheVariants.{Kill, Sigqueue}
use Rattle.posix.specs.declared.errno.Errno.{Errno}
use Rattle.posix.specs.declared.errno.Errno.TheVariants.{EPERM, ESRCH, EAGAIN, EINVAL}
use Rattle.posix.specs.declared.process.PendingSignal.{PendingSignal}
use Rattle.posix.specs.declared.process.Sending.{Sending}
use Rattle.posix.specs.declared.process.Sending.TheVariants as found
use Rattle.posix.specs.declared.target.Target.{Target}
use Rattle.posix.specs.declared.target.Target.TheVariants as whom
use Rattle.posix.specs.SignalNumbers.{is_realtime, is_signal}
use Rattle.posix.specs.Processes.{Process, argument}
use Rattle.posix.specs.Tables.{pids}
use Rattle.posix.specs.Targets.{target_in, process_in}
use Rattle.posix.specs.States.{State}
use Rattle.posix.specs.Outcomes.{Attempted, finish_with, refused, no_memory}
use Rattle.posix.specs.Credentials.{may}
use Rattle.posix.specs.Generation.{gets_no_signals, keeps}
use Rattle.posix.specs.Notices.{signalled_all}

-- Returns true if the target selects r. All are the processes other than the sender and process 1, kill(2).
abbrev pub is_target : Process → Target → Process → Bool
is_target me (whom.Process p) r = r.pid == p
is_target me whom.OwnGroup r = r.group == me.group
is_target me (whom.Group p) r = r.group == p
is_target me whom.All r = not (r.pid == me.pid || r.pid == 1)
is_target me whom.Nobody r = false

-- Returns the selected processes, zombies included, in ascending order.
unfoldable pub targets : Process → Target → List Process → List Process
targets me target rs = filter (is_target me target) rs

unfoldable pub permitted : Process → Option ℕ → List Process → List Process
permitted me s rs = filter (may me s) rs

-- Returns whether any selected process may be signalled; EPERM if none may. In Linux, a kill of -1
-- returns 0 if none may.
abbrev pub sending_permitted : List Process → Sending
sending_permitted [] = found.NobodyPermitted
sending_permitted (r ∷ rs) = found.Permitted

abbrev pub sending_found : Process → Option ℕ → List Process → Sending
sending_found me s [] = found.NobodyFound
sending_found me s (r ∷ rs) = sending_permitted (permitted me s (r ∷ rs))

-- Returns whether the signal finds a process that may be signalled.
-- Targets and permission are those of the state before the first signal. SIGCHLD for the parent of a process that
-- SIGCONT continues may reach a later target, or the sender; but no signal changes IDs, process groups or sessions.
unfoldable pub sending : Process → Target → Option ℕ → List Process → Sending
sending me target s rs = sending_found me s (targets me target rs)

-- ---- queues

-- The maximum number of real-time signals queued for one process (own).
abbrev pub most_queued : ℕ
most_queued = 32

abbrev pub has_full_queue : Process → Bool
has_full_queue r = nat_le most_queued (length r.signals.queue)

-- Returns true if n is a real-time signal that would be queued for r.
abbrev pub is_queuer : ℕ → Process → Bool
is_queuer n r = is_realtime n && (not (gets_no_signals r.pid r.life r.signals n) && keeps r.signals n)

-- Returns those of the processes for which the signal would be queued; a standard signal is never queued.
unfoldable pub queuers : Option ℕ → List Process → List Process
queuers None rs = []
queuers (Some n) rs = filter (is_queuer n) rs

-- The signal is queued for no process if one of the queues is full, or if the host does not grant the memory that the
-- queues may need (own). In Linux, kill then makes the signal pending once, without its value and sender, and
-- sigqueue fails.
abbrev pub queued_for : Bool → List Process → Sending → Sending
queued_for granted [] other = other
queued_for granted (q ∷ qs) other =
    if list_any has_full_queue (q ∷ qs) then found.QueueFull
    else if granted then other
    else found.NoMemory

-- Returns the permitted targets for which the sent signal would be queued.
unfoldable pub queuers_among : Process → Target → Option ℕ → List Process → List Process
queuers_among me target s rs = queuers s (permitted me s (targets me target rs))

-- Returns the result of a send, given whether the host grants memory.
unfoldable pub sending_granted : Bool → Process → Target → Option ℕ → List Process → Sending
sending_granted granted me target s rs = queued_for granted (queuers_among me target s rs) (sending me target s rs)

-- ---- what is sent

-- Returns the signal n that process p sends with a value; p is its sender.
abbrev pub sent_by : ℕ → ℤ → ℕ → PendingSignal
sent_by p value n = record { sig = n; carried = record { value = value; sender = p } }

abbrev pub message : ℕ → ℤ → Option ℕ → Option PendingSignal
message p value None = None
message p value (Some n) = Some (sent_by p value n)

-- Returns the signal's number, or None for signal 0.
abbrev pub number_of : Option PendingSignal → Option ℕ
number_of None = None
number_of (Some signal) = Some signal.sig

-- Generates the signal for those of the processes that may be signalled; signal 0 only checks.
unfoldable pub sent_among : Process → Option PendingSignal → List Process → List Process → List Process
sent_among me None qs rs = rs
sent_among me (Some signal) qs rs = signalled_all signal (pids (permitted me (Some signal.sig) qs)) rs

-- Generates the signal for the selected processes that may be signalled.
unfoldable pub sent : Process → Target → Option PendingSignal → List Process → List Process
sent me target signal rs = sent_among me signal (targets me target rs) rs

-- ---- kill and sigqueue

abbrev pub send_with : State → Process → Call → Target → Option PendingSignal → Sending → Attempted
send_with s me call target signal found.NobodyFound = refused s me.pid call ESRCH
send_with s me call target signal found.NobodyPermitted = refused s me.pid call EPERM
send_with s me call target signal found.QueueFull = refused s me.pid call EAGAIN
send_with s me call target signal found.NoMemory = no_memory s me.pid call
send_with s me call target signal found.Permitted = finish_with (record s { processes = sent me target signal s.processes }) me.pid call (pos 0)

-- Returns the signal that a register names, if any.
abbrev pub signal_in : ℤ → Option ℕ
signal_in (pos n) = if is_signal n then Some n else None
signal_in (negsuc n) = None

-- Returns the signal that a register names, None for signal 0, or EINVAL.
abbrev pub signal_or_none : ℤ → Result (Option ℕ) Errno
signal_or_none (pos zero) = Ok None
signal_or_none (pos (suc n)) = if is_signal (suc n) then Ok (Some (suc n)) else Err EINVAL
signal_or_none (negsuc n) = Err EINVAL

-- Sends a signal for a call. The signal number is checked first (own); in Linux, the processes are looked up first.
abbrev pub send : Bool → State → Process → Call → Target → ℤ → Result (Option ℕ) Errno → Attempted
send granted s me call target value (Ok n) = send_with s me call target (message me.pid value n) (sending_granted granted me target n s.processes)
send granted s me call target value (Err why) = refused s me.pid call why

-- Attempts kill; the target is in r1, the signal in r2. The value is 0.
unfoldable pub kill : Bool → State → Process → Attempted
kill granted s me = send granted s me Kill (target_in (argument me 1)) (pos 0) (signal_or_none (argument me 2))

-- Attempts sigqueue; the process is in r1, the signal in r2, the value in r3.
unfoldable pub sigqueue : Bool → State → Process → Attempted
sigqueue granted s me = send granted s me Sigqueue (process_in (argument me 1)) (argument me 3) (signal_or_none (argument me 2))
