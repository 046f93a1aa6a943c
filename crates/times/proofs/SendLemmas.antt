-- Shows that sends of signals don't depend on the time.
use Rattle.std.proofs.Common.{◌≡◌, ℕ, Bool, cond, List, [], ◌∷◌, Option, Some, None, refl, ap, ◌∙◌}
use Rattle.std.specs.Prelude.{ℤ, pos, Result, Ok, Err}
use Rattle.posix.specs.Processes.{Process, argument}
use Rattle.posix.specs.States.{State}
use Rattle.posix.specs.Tables.{pids}
use Rattle.posix.specs.Targets.{target_in, process_in}
use Rattle.posix.specs.Credentials.{may}
use Rattle.posix.specs.Notices.{signalled_all}
use Rattle.posix.specs.Outcomes.{finish_with}
use Rattle.posix.specs.Sends.{is_target, targets, permitted, sending_permitted, sending_found, sending, has_full_queue, is_queuer, queuers, queued_for, queuers_among, sending_granted, message, sent_among, sent, send_with, signal_or_none, send, kill, sigqueue}
use Rattle.posix.specs.declared.call.Call.{Call}
use Rattle.posix.specs.declared.call.Call.TheVariants.{Kill, Sigqueue}
use Rattle.posix.specs.declared.errno.Errno.{Errno}
use Rattle.posix.specs.declared.errno.Errno.TheVariants.{EPERM, ESRCH, EAGAIN}
use Rattle.posix.specs.declared.process.PendingSignal.{PendingSignal}
use Rattle.posix.specs.declared.process.Sending.{Sending}
use Rattle.posix.specs.declared.process.Sending.TheVariants as found
use Rattle.posix.specs.declared.target.Target.{Target}
use Rattle.posix.specs.declared.target.Target.TheVariants as whom
use Rattle.times.specs.Times.{later, all_later, state_later}
use Rattle.times.proofs.SignalLemmas.{pids_later, signalled_all_later}
use Rattle.times.proofs.CallLemmas.{attempted_later}
use Rattle.times.proofs.GroupLemmas.{list_any_later, filter_later}
use Rattle.times.proofs.OutcomeLemmas.{finish_with_later, refused_later, no_memory_later}

-- ---- targets

pub is_target_later : (d : ℕ) (me : Process) (t : Target) (r : Process) → is_target (later d me) t (later d r) ≡ is_target me t r
is_target_later d me (whom.Process p) r = refl
is_target_later d me whom.OwnGroup r = refl
is_target_later d me (whom.Group p) r = refl
is_target_later d me whom.All r = refl
is_target_later d me whom.Nobody r = refl

pub targets_later : (d : ℕ) (me : Process) (t : Target) (rs : List Process) → targets (later d me) t (all_later d rs) ≡ all_later d (targets me t rs)
unfolding targets
targets_later d me t rs = filter_later d (is_target (later d me) t) (is_target me t) rs (is_target_later d me t)

pub permitted_later : (d : ℕ) (me : Process) (n : Option ℕ) (rs : List Process) → permitted (later d me) n (all_later d rs) ≡ all_later d (permitted me n rs)
unfolding permitted
permitted_later d me n rs = filter_later d (may (later d me) n) (may me n) rs (λ r. refl)

sending_permitted_later : (d : ℕ) (rs : List Process) → sending_permitted (all_later d rs) ≡ sending_permitted rs
sending_permitted_later d [] = refl
sending_permitted_later d (r ∷ rs) = refl

sending_found_later : (d : ℕ) (me : Process) (n : Option ℕ) (rs : List Process) → sending_found (later d me) n (all_later d rs) ≡ sending_found me n rs
sending_found_later d me n [] = refl
sending_found_later d me n (r ∷ rs) = ap sending_permitted (permitted_later d me n (r ∷ rs)) ∙ sending_permitted_later d (permitted me n (r ∷ rs))

pub sending_later : (d : ℕ) (me : Process) (t : Target) (n : Option ℕ) (rs : List Process) → sending (later d me) t n (all_later d rs) ≡ sending me t n rs
unfolding sending
sending_later d me t n rs = ap (sending_found (later d me) n) (targets_later d me t rs) ∙ sending_found_later d me n (targets me t rs)

-- ---- queues

pub queuers_later : (d : ℕ) (n : Option ℕ) (rs : List Process) → queuers n (all_later d rs) ≡ all_later d (queuers n rs)
unfolding queuers
queuers_later d None rs = refl
queuers_later d (Some n) rs = filter_later d (is_queuer n) (is_queuer n) rs (λ r. refl)

queued_for_later : (d : ℕ) (granted : Bool) (rs : List Process) (other : Sending) → queued_for granted (all_later d rs) other ≡ queued_for granted rs other
queued_for_later d granted [] other = refl
queued_for_later d granted (r ∷ rs) other = ap (λ (full : Bool). cond full found.QueueFull (cond granted other found.NoMemory)) (list_any_later d has_full_queue has_full_queue (r ∷ rs) (λ r. refl))

pub queuers_among_later : (d : ℕ) (me : Process) (t : Target) (n : Option ℕ) (rs : List Process) → queuers_among (later d me) t n (all_later d rs) ≡ all_later d (queuers_among me t n rs)
unfolding queuers_among
queuers_among_later d me t n rs =
    ap (λ (qs : List Process). queuers n (permitted (later d me) n qs)) (targets_later d me t rs)
    ∙ ap (queuers n) (permitted_later d me n (targets me t rs))
    ∙ queuers_later d n (permitted me n (targets me t rs))

pub sending_granted_later : (d : ℕ) (granted : Bool) (me : Process) (t : Target) (n : Option ℕ) (rs : List Process) → sending_granted granted (later d me) t n (all_later d rs) ≡ sending_granted granted me t n rs
unfolding sending_granted
sending_granted_later d granted me t n rs =
    ap (queued_for granted (queuers_among (later d me) t n (all_later d rs))) (sending_later d me t n rs)
    ∙ ap (λ (qs : List Process). queued_for granted qs (sending me t n rs)) (queuers_among_later d me t n rs)
    ∙ queued_for_later d granted (queuers_among me t n rs) (sending me t n rs)

-- ---- what is sent

pub sent_among_later : (d : ℕ) (me : Process) (m : Option PendingSignal) (qs rs : List Process) → sent_among (later d me) m (all_later d qs) (all_later d rs) ≡ all_later d (sent_among me m qs rs)
unfolding sent_among
sent_among_later d me None qs rs = refl
sent_among_later d me (Some m) qs rs =
    ap (λ (ps : List ℕ). signalled_all m ps (all_later d rs)) (ap pids (permitted_later d me (Some m.sig) qs) ∙ pids_later d (permitted me (Some m.sig) qs))
    ∙ signalled_all_later d m (pids (permitted me (Some m.sig) qs)) rs

pub sent_later : (d : ℕ) (me : Process) (t : Target) (m : Option PendingSignal) (rs : List Process) → sent (later d me) t m (all_later d rs) ≡ all_later d (sent me t m rs)
unfolding sent
sent_later d me t m rs = ap (λ (qs : List Process). sent_among (later d me) m qs (all_later d rs)) (targets_later d me t rs) ∙ sent_among_later d me m (targets me t rs) rs

-- ---- kill and sigqueue

pub send_with_later : (d : ℕ) (s : State) (me : Process) (call : Call) (t : Target) (m : Option PendingSignal) (w : Sending) → send_with (state_later d s) (later d me) call t m w ≡ attempted_later d (send_with s me call t m w)
send_with_later d s me call t m found.NobodyFound = refused_later d s me.pid call ESRCH
send_with_later d s me call t m found.NobodyPermitted = refused_later d s me.pid call EPERM
send_with_later d s me call t m found.QueueFull = refused_later d s me.pid call EAGAIN
send_with_later d s me call t m found.NoMemory = no_memory_later d s me.pid call
send_with_later d s me call t m found.Permitted =
    ap (λ (rs : List Process). finish_with (record (state_later d s) { processes = rs }) me.pid call (pos 0)) (sent_later d me t m s.processes)
    ∙ finish_with_later d (record s { processes = sent me t m s.processes }) me.pid call (pos 0)

pub send_later : (d : ℕ) (granted : Bool) (s : State) (me : Process) (call : Call) (t : Target) (value : ℤ) (n : Result (Option ℕ) Errno) → send granted (state_later d s) (later d me) call t value n ≡ attempted_later d (send granted s me call t value n)
send_later d granted s me call t value (Ok n) =
    ap (send_with (state_later d s) (later d me) call t (message me.pid value n)) (sending_granted_later d granted me t n s.processes)
    ∙ send_with_later d s me call t (message me.pid value n) (sending_granted granted me t n s.processes)
send_later d granted s me call t value (Err why) = refused_later d s me.pid call why

pub kill_later : (d : ℕ) (granted : Bool) (s : State) (me : Process) → kill granted (state_later d s) (later d me) ≡ attempted_later d (kill granted s me)
unfolding kill
kill_later d granted s me = send_later d granted s me Kill (target_in (argument me 1)) (pos 0) (signal_or_none (argument me 2))

pub sigqueue_later : (d : ℕ) (granted : Bool) (s : State) (me : Process) → sigqueue granted (state_later d s) (later d me) ≡ attempted_later d (sigqueue granted s me)
unfolding sigqueue
sigqueue_later d granted s me = send_later d granted s me Sigqueue (process_in (argument me 1)) (argument me 3) (signal_or_none (argument me 2))
