-- Shows that the delivery of signals and machine faults doesn't depend on the time.
use Rattle.std.proofs.Common.{◌≡◌, ℕ, Bool, true, false, cond, List, [], ◌∷◌, ◌++◌, Option, Some, None, refl, ap, ◌∙◌, not, ◌&&◌, ◌==◌}
use native.Mathlib.Omega.{arith}
use Rattle.std.specs.Prelude.{ℤ}
use Rattle.posix.specs.declared.entry.Entry.{Entry}
use Rattle.posix.specs.declared.entry.Entry.TheVariants.{Handled, Stopped, Returned}
use Rattle.posix.specs.declared.process.Frame.{Frame}
use Rattle.posix.specs.declared.process.Handler.{Handler}
use Rattle.posix.specs.declared.process.Handler.TheVariants as handler
use Rattle.posix.specs.declared.process.PendingSignal.{PendingSignal}
use Rattle.posix.specs.declared.sig.DefaultAction.{DefaultAction}
use Rattle.posix.specs.declared.sig.DefaultAction.TheVariants as default
use Rattle.posix.specs.SignalNumbers.{SEGV, STOP, default_action}
use Rattle.posix.specs.SignalSets.{has}
use Rattle.posix.specs.Statuses.{killed, stopped}
use Rattle.posix.specs.Processes.{Process}
use Rattle.posix.specs.Tables.{changed}
use Rattle.posix.specs.States.{State, change, lose_place}
use Rattle.posix.specs.Outcomes.{Outcome}
use Rattle.posix.specs.Generation.{action}
use Rattle.posix.specs.Notices.{told_of_change, stopped_by}
use Rattle.posix.specs.Groups.{is_orphaned}
use Rattle.posix.specs.Choice.{carried_by, from_kernel}
use Rattle.posix.specs.Handlers.{handles, is_full, newest_frame, returned}
use Rattle.posix.specs.Ends.{end_process}
use Rattle.posix.specs.Delivery.{interruption, handle, discard, stop_process, stop_or_discard, act_by_default, act_on, take_out, deliver, fault_with, fault, return_to, return_from_handler}
use Rattle.times.specs.Times.{later, state_later, outcome_later}
use Rattle.times.proofs.TableLemmas.{changed_later}
use Rattle.times.proofs.SignalLemmas.{told_of_change_later}
use Rattle.times.proofs.OutcomeLemmas.{change_later}
use Rattle.times.proofs.GroupLemmas.{is_orphaned_later}
use Rattle.times.proofs.EndLemmas.{end_process_later}

-- ---- changes of one process

pub stopped_by_later : (d n : ℕ) (r : Process) → stopped_by n (later d r) ≡ later d (stopped_by n r)
unfolding stopped_by
stopped_by_later d n r = refl

pub take_out_later : (d n : ℕ) (r : Process) → take_out n (later d r) ≡ later d (take_out n r)
unfolding take_out
take_out_later d n r = refl

pub returned_later : (d : ℕ) (frame : Frame) (r : Process) → returned frame (later d r) ≡ later d (returned frame r)
unfolding returned
returned_later d frame r = refl

pub handles_later : (d : ℕ) (signal : PendingSignal) (address : ℤ) (r : Process) → handles signal address (later d r) ≡ later d (handles signal address r)
unfolding handles
handles_later d signal address r = grind arith

-- ---- handlers

pub handle_later : (d : ℕ) (s : State) (r : Process) (signal : PendingSignal) (address : ℤ) → handle (state_later d s) (later d r) signal address ≡ outcome_later d (handle s r signal address)
unfolding handle
handle_later d s r signal address = ap (λ (t : State). cond (is_full r.signals) (full t) (entering t)) changes ∙ go (is_full r.signals) where
  first : List Entry
  first = interruption r.pid r.blocked (action r.signals signal.sig)

  full : State → Outcome
  full t = record { state = (end_process t (later d r) (killed SEGV)).state; entries = first ++ (end_process t (later d r) (killed SEGV)).entries }

  entering : State → Outcome
  entering t = record { state = t; entries = first ++ Handled r.pid signal.sig signal.carried.value signal.carried.sender ∷ [] }

  now : State
  now = change s r.pid (handles signal address)

  changes : change (state_later d s) r.pid (handles signal address) ≡ state_later d now
  changes = change_later d s r.pid (handles signal address) (handles signal address) (handles_later d signal address)

  go : (b : Bool) → cond b (full (state_later d now)) (entering (state_later d now))
      ≡ outcome_later d (cond b (record { state = (end_process now r (killed SEGV)).state; entries = first ++ (end_process now r (killed SEGV)).entries }) (entering now))
  go true = ap (λ (o : Outcome). record { state = o.state; entries = first ++ o.entries }) (end_process_later d now r (killed SEGV))
  go false = refl

-- ---- default actions

pub stop_process_later : (d : ℕ) (s : State) (r : Process) (n : ℕ) → stop_process (state_later d s) (later d r) n ≡ outcome_later d (stop_process s r n)
unfolding stop_process
stop_process_later d s r n =
    ap (λ (rs : List Process). record { state = record (lose_place (state_later d s) r.pid) { processes = rs }; entries = Stopped r.pid n ∷ [] })
    (ap (told_of_change (stopped n) (later d r)) (changed_later d r.pid (stopped_by n) (stopped_by n) s.processes (stopped_by_later d n))
    ∙ told_of_change_later d (stopped n) r (changed r.pid (stopped_by n) s.processes))

pub stop_or_discard_later : (d : ℕ) (s : State) (r : Process) (n : ℕ) → stop_or_discard (state_later d s) (later d r) n ≡ outcome_later d (stop_or_discard s r n)
stop_or_discard_later d s r n =
    ap (λ (b : Bool). cond (not (n == STOP) && b) (discard (state_later d s) r.pid n) (stop_process (state_later d s) (later d r) n)) (is_orphaned_later d r.group s.processes)
    ∙ go (not (n == STOP) && is_orphaned r.group s.processes)
  where
    go : (b : Bool) → cond b (discard (state_later d s) r.pid n) (stop_process (state_later d s) (later d r) n) ≡ outcome_later d (cond b (discard s r.pid n) (stop_process s r n))
    go true = refl
    go false = stop_process_later d s r n

pub act_by_default_later : (d : ℕ) (s : State) (r : Process) (n : ℕ) (a : DefaultAction) → act_by_default (state_later d s) (later d r) n a ≡ outcome_later d (act_by_default s r n a)
act_by_default_later d s r n default.Terminate = end_process_later d s r (killed n)
act_by_default_later d s r n default.Stop = stop_or_discard_later d s r n
act_by_default_later d s r n default.Ignore = refl
act_by_default_later d s r n default.Continue = refl

-- ---- the action of a signal

pub act_on_later : (d : ℕ) (s : State) (r : Process) (signal : PendingSignal) (h : Handler) → act_on (state_later d s) (later d r) signal h ≡ outcome_later d (act_on s r signal h)
act_on_later d s r signal (handler.At address) = handle_later d s r signal address
act_on_later d s r signal handler.Ignore = refl
act_on_later d s r signal handler.Default = go (r.pid == 1) where
  go : (b : Bool) → cond b (discard (state_later d s) r.pid signal.sig) (act_by_default (state_later d s) (later d r) signal.sig (default_action signal.sig))
      ≡ outcome_later d (cond b (discard s r.pid signal.sig) (act_by_default s r signal.sig (default_action signal.sig)))
  go true = refl
  go false = act_by_default_later d s r signal.sig (default_action signal.sig)

pub deliver_later : (d : ℕ) (s : State) (r : Process) (n : ℕ) → deliver (state_later d s) (later d r) n ≡ outcome_later d (deliver s r n)
unfolding deliver
deliver_later d s r n =
    let signal : PendingSignal = record { sig = n; carried = carried_by n r.signals } in
    ap (λ (t : State). act_on t (later d r) signal (action r.signals n).handler) (change_later d s r.pid (take_out n) (take_out n) (take_out_later d n))
    ∙ act_on_later d (change s r.pid (take_out n)) r signal (action r.signals n).handler

-- ---- machine faults

pub fault_with_later : (d : ℕ) (s : State) (r : Process) (n : ℕ) (h : Handler) → fault_with (state_later d s) (later d r) n h ≡ outcome_later d (fault_with s r n h)
fault_with_later d s r n (handler.At address) = go (has r.signals.mask n) where
  go : (b : Bool) → cond b (end_process (state_later d s) (later d r) (killed n)) (handle (state_later d s) (later d r) (record { sig = n; carried = from_kernel }) address)
      ≡ outcome_later d (cond b (end_process s r (killed n)) (handle s r (record { sig = n; carried = from_kernel }) address))
  go true = end_process_later d s r (killed n)
  go false = handle_later d s r (record { sig = n; carried = from_kernel }) address
fault_with_later d s r n handler.Ignore = end_process_later d s r (killed n)
fault_with_later d s r n handler.Default = end_process_later d s r (killed n)

pub fault_later : (d : ℕ) (s : State) (r : Process) (n : ℕ) → fault (state_later d s) (later d r) n ≡ outcome_later d (fault s r n)
unfolding fault
fault_later d s r n = fault_with_later d s r n (action r.signals n).handler

-- ---- the return from a handler

pub return_to_later : (d : ℕ) (s : State) (r : Process) (frame : Option Frame) → return_to (state_later d s) (later d r) frame ≡ outcome_later d (return_to s r frame)
return_to_later d s r None = fault_later d s r SEGV
return_to_later d s r (Some frame) = ap (λ (t : State). record { state = t; entries = Returned r.pid ∷ [] }) (change_later d s r.pid (returned frame) (returned frame) (returned_later d frame))

pub return_from_handler_later : (d : ℕ) (s : State) (r : Process) → return_from_handler (state_later d s) (later d r) ≡ outcome_later d (return_from_handler s r)
unfolding return_from_handler
return_from_handler_later d s r = return_to_later d s r (newest_frame r.signals)
