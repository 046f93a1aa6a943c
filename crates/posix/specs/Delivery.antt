-- Delivery of signals, and machine faults, XSH 2.4.1 and 2.4.3.
use Rattle.std.specs.Prelude.{ℕ, ◌==◌, ◌&&◌, not, if◌then◌else◌, List, [], ◌∷◌, ◌++◌, Option, Some, None, ℤ}
use Rattle.posix.specs.declared.call.Call.{Call}
use Rattle.posix.specs.declared.call.Call.TheVariants as call
use Rattle.posix.specs.declared.errno.Errno.TheVariants.{EINTR}
use Rattle.posix.specs.declared.sig.DefaultAction.{DefaultAction}
use Rattle.posix.specs.declared.sig.DefaultAction.TheVariants as default
use Rattle.posix.specs.declared.entry.Entry.{Entry}
use Rattle.posix.specs.declared.entry.Entry.TheVariants.{Called, Handled, Stopped, Discarded, Returned}
use Rattle.posix.specs.declared.process.Action.{Action}
use Rattle.posix.specs.declared.process.Blocked.{Blocked}
use Rattle.posix.specs.declared.process.Blocked.TheVariants as blocked
use Rattle.posix.specs.declared.process.Frame.{Frame}
use Rattle.posix.specs.declared.process.Handler.{Handler}
use Rattle.posix.specs.declared.process.Handler.TheVariants as handler
use Rattle.posix.specs.declared.process.PendingSignal.{PendingSignal}
use Rattle.posix.specs.SignalNumbers.{SEGV, STOP, default_action}
use Rattle.posix.specs.SignalSets.{has}
use Rattle.posix.specs.Calls.{call_of_wait}
use Rattle.posix.specs.Statuses.{killed, stopped}
use Rattle.posix.specs.Processes.{Process}
use Rattle.posix.specs.Tables.{changed}
use Rattle.posix.specs.States.{State, change, lose_place}
use Rattle.posix.specs.Outcomes.{Outcome, refusal}
use Rattle.posix.specs.Generation.{action}
use Rattle.posix.specs.Notices.{told_of_change, stopped_by}
use Rattle.posix.specs.Groups.{is_orphaned}
use Rattle.posix.specs.Choice.{taken, carried_by, from_kernel}
use Rattle.posix.specs.Handlers.{handles, is_full, is_interrupted, newest_frame, returned}
use Rattle.posix.specs.Ends.{end_process}

-- Returns the call that a process is blocked in.
abbrev pub call_of : Blocked → Call
call_of (blocked.Wait c) = call_of_wait c
call_of blocked.Read = call.Read
call_of blocked.Pause = call.Pause
call_of (blocked.Sigsuspend earlier) = call.Sigsuspend

-- Returns the trace entry of a call that a handler interrupts: the call fails with EINTR. A restarted call has none.
abbrev pub interruption : ℕ → Option Blocked → Action → List Entry
interruption p None a = []
interruption p (Some b) a = if is_interrupted (Some b) a then Called p (call_of b) (refusal EINTR) ∷ [] else []

-- Enters the handler at an address. If there is no room for a frame, SIGSEGV kills the process (own).
unfoldable pub handle : State → Process → PendingSignal → ℤ → Outcome
handle s r signal address =
    let first = interruption r.pid r.blocked (action r.signals signal.sig) in
    let t = change s r.pid (handles signal address) in
    if is_full r.signals then (let o = end_process t r (killed SEGV) in record { state = o.state; entries = first ++ o.entries })
    else record { state = t; entries = first ++ Handled r.pid signal.sig signal.carried.value signal.carried.sender ∷ [] }

-- Discards the delivered signal n. A process that is blocked in a call stays in it (own).
abbrev pub discard : State → ℕ → ℕ → Outcome
discard s p n = record { state = s; entries = Discarded p n ∷ [] }

-- Stops the process, removes it from the run queue, and notifies its parent. A process that is blocked in a call
-- stays in it (own); in Linux, the mask before sigsuspend is restored for an instant.
unfoldable pub stop_process : State → Process → ℕ → Outcome
stop_process s r n = record {
  state = record (lose_place s r.pid) { processes = told_of_change (stopped n) r (changed r.pid (stopped_by n) s.processes) };
  entries = Stopped r.pid n ∷ [];
}

-- SIGTSTP, SIGTTIN and SIGTTOU have no effect if the process group is orphaned at delivery, XSH 2.4.3.
abbrev pub stop_or_discard : State → Process → ℕ → Outcome
stop_or_discard s r n = if not (n == STOP) && is_orphaned r.group s.processes then discard s r.pid n else stop_process s r n

abbrev pub act_by_default : State → Process → ℕ → DefaultAction → Outcome
act_by_default s r n default.Terminate = end_process s r (killed n)
act_by_default s r n default.Stop = stop_or_discard s r n
act_by_default s r n _ = discard s r.pid n

-- Default actions have no effect on process 1, kill(2).
abbrev pub act_on : State → Process → PendingSignal → Handler → Outcome
act_on s r signal (handler.At address) = handle s r signal address
act_on s r signal handler.Ignore = discard s r.pid signal.sig
act_on s r signal handler.Default = if r.pid == 1 then discard s r.pid signal.sig else act_by_default s r signal.sig (default_action signal.sig)

unfoldable pub take_out : ℕ → Process → Process
take_out n r = record r { signals = taken n r.signals }

-- Delivers signal n to r: removes it from the pending signals, and takes its action.
unfoldable pub deliver : State → Process → ℕ → Outcome
deliver s r n = act_on (change s r.pid (take_out n)) r (record { sig = n; carried = carried_by n r.signals }) (action r.signals n).handler

-- A machine fault enters its handler if there is one and the signal isn't blocked. Otherwise it terminates the
-- process, even process 1 (own), because the instruction could never continue.
abbrev pub fault_with : State → Process → ℕ → Handler → Outcome
fault_with s r n (handler.At address) =
    if has r.signals.mask n then end_process s r (killed n)
    else handle s r (record { sig = n; carried = from_kernel }) address
fault_with s r n _ = end_process s r (killed n)

unfoldable pub fault : State → Process → ℕ → Outcome
fault s r n = fault_with s r n (action r.signals n).handler

-- Returns from the newest handler. If there is none, it is a SIGSEGV fault, sigreturn(2).
abbrev pub return_to : State → Process → Option Frame → Outcome
return_to s r None = fault s r SEGV
return_to s r (Some frame) = record { state = change s r.pid (returned frame); entries = Returned r.pid ∷ [] }

unfoldable pub return_from_handler : State → Process → Outcome
return_from_handler s r = return_to s r (newest_frame r.signals)
