-- Queues: the processes for which a signal that is sent would be queued, part by part. Pools suffice for all of them.
use Rattle.std.proofs.Common.{is_some, ◌≡◌, ◌≤◌, ◌<◌, ◌+◌, ◌-◌, ◌&&◌, not, ℕ, Bool, true, false, true≢false, cond, refl, ap, sym, ◌∙◌, arith, subst, inl, inr, ◌⊎◌, List, [], ◌∷◌, ◌++◌, filter, length, nat_lt, Option, Some, None, ◌==◌}
use Rattle.std.proofs.Math.Nat.{le_trans}
use Rattle.std.specs.List.{list_any}
use Rattle.std.specs.Option.{IsSome}
use Rattle.std.proofs.lemmas.Bool.{cases_lt, cond_both, eqb-true, or_parts}
use Rattle.std.proofs.lemmas.Bool.Decides.{nat_tests}
use Rattle.std.proofs.lemmas.Option.{same_Some}
use Rattle.std.proofs.lemmas.List.{length-append}
use Rattle.std.proofs.lemmas.List.Elements.{filter-append}
use Rattle.std.proofs.lemmas.List.Folds.{list_any-append}
use Rattle.posix.specs.declared.process.PendingSignal.{PendingSignal}
use Rattle.posix.specs.declared.process.Sending.{Sending}
use Rattle.posix.specs.declared.process.Sending.TheVariants as found
use Rattle.posix.specs.declared.target.Target.{Target}
use Rattle.posix.specs.Common.{is_realtime, Process, Signals, IsRising, IsNext, lookup, changed, pids, above, left_of, may, signalled, generated, gets_no_signals, keeps, after_discards, make_pending, generated_for, signalled_all, sending, sending_found, sending_permitted, sent, queued_for, has_full_queue, is_queuer, is_target, targets, permitted, queuers, queuers_among, number_of, sent_among, State, process}
use Rattle.posix.proofs.TableLemmas.{changed_same, pid_looked}
use Rattle.posix.proofs.RealtimeLemmas.{realtime_effect, realtime_not, generated_alone}
use Rattle.posix.proofs.TouchLemmas.{unseen_signalled}
use Rattle.posix.proofs.WalkLemmas.{numbered, numbered_one, numbered_none, rest_of_walk, walk_splits}
use Rattle.posix.proofs.RegularLemmas.{Keeps, keeps_cond, keeps_none, keeps_signalled}
use Rattle.signal.specs.declared.realtime_pool.RealtimePool.{RealtimePool}
use Rattle.proctable.specs.Records.{queued}
use Rattle.jobs.proofs.RunLemmas.{OnlySignals}
use Rattle.life.specs.Queues.{HaveRoom, survey_of, Sends, is_sent, sent_as, rechecking_as}
use Rattle.life.specs.Machines.{Changes, IfThere, Looks, MachineView, with_processes}
use Rattle.life.specs.declared.surveys.Survey.{Survey}
use Rattle.life.specs.Rechecks.{rechecking_all, rechecking_generated, rechecking_signalled, rechecks_by_signals, slots_of_signal}
use Rattle.life.proofs.FunnelLemmas.{HasRun, signal_ends}
use Rattle.life.proofs.SignalLemmas.{only_signalled}

-- ---- real-time signals

-- a process that doesn't queue it stays as it is
pub unqueued_same : (m : PendingSignal) (r : Process) → is_realtime m.sig ≡ true → is_queuer m.sig r ≡ false → signalled m r ≡ r
unfolding signalled generated
unqueued_same m r e none =
    let g = r.signals in
    let not_cont = realtime_not m.sig e in
    let same : after_discards m.sig g ≡ g = rw (not_cont.0, not_cont.1) refl in
    by (gets_no_signals r.pid r.life g m.sig) (keeps g m.sig) (sym (ap (λ b. b && (not (gets_no_signals r.pid r.life g m.sig) && keeps g m.sig)) e) ∙ none) (after_discards m.sig g) same
  where
    by : (a b : Bool) → (not a && b) ≡ false → (h : Signals) → h ≡ r.signals → record r { signals = cond a r.signals (cond b (make_pending m h) h) } ≡ r
    by true b f h is = refl
    by false true f h is = absurd (cc)
    by false false f h is = ap (λ (x : Signals). record r { signals = x }) is

-- a standard signal is queued for no process
pub none_queued : (n : ℕ) (qs : List Process) → is_realtime n ≡ false → queuers (Some n) qs ≡ []
unfolding queuers
none_queued n [] e = refl
none_queued n (q ∷ qs) e = rw e (none_queued n qs e)

-- ---- of two parts

-- there is room for the first part, and then for the rest
pub room_first : (n : ℕ) (xs ys : List Process) → HaveRoom n (xs ++ ys) → HaveRoom n xs
room_first n xs ys h = record {
  free = (or_parts _ _ (sym (list_any-append has_full_queue xs ys) ∙ h.free)).0;
  enough = omega (arith, h.enough, length-append xs ys);
}

pub room_rest : (n m : ℕ) (xs ys : List Process) → n ≤ m + length xs → HaveRoom n (xs ++ ys) → HaveRoom m ys
room_rest n m xs ys less h = record {
  free = (or_parts _ _ (sym (list_any-append has_full_queue xs ys) ∙ h.free)).1;
  enough = omega (arith, h.enough, less, length-append xs ys);
}

pub queuers_append : (s : Option ℕ) (xs ys : List Process) → queuers s (xs ++ ys) ≡ queuers s xs ++ queuers s ys
unfolding queuers
queuers_append None xs ys = refl
queuers_append (Some n) xs ys = filter-append (is_queuer n) xs ys

-- those of two parts for which a signal would be queued
pub queuing_append : (me : Process) (s : Option ℕ) (xs ys : List Process) → queuers s (permitted me s (xs ++ ys)) ≡ queuers s (permitted me s xs) ++ queuers s (permitted me s ys)
unfolding permitted
queuing_append me s xs ys = ap (queuers s) (filter-append (may me s) xs ys) ∙ queuers_append s (filter (may me s) xs) (filter (may me s) ys)

-- ---- the walk

-- after p all stays if only p is changed
behind_changed : (p : ℕ) (f : Process → Process) → ((r : Process) → (f r).pid ≡ r.pid) → (rs : List Process) → above p (changed p f rs) ≡ above p rs
unfolding changed
behind_changed p f keeps [] = refl
behind_changed p f keeps (r ∷ rs) = elim (r.pid == p) as (λ b. (r.pid == p) ≡ b → above p (cond b (f r) r ∷ changed p f rs) ≡ above p (r ∷ rs)) [
  | true ↦ λ e.
      let here = eqb-true r.pid p e in
      let past : nat_lt p r.pid ≡ false = grind (arith, nat_tests, here) in
      rw (keeps r, past) (behind_changed p f keeps rs)
  | false ↦ λ e. ap (λ l. cond (nat_lt p r.pid) (r ∷ l) l) (behind_changed p f keeps rs)
] refl

-- the same once p got it, if it did
behind_all : (m : PendingSignal) (p : ℕ) (rs : List Process) (qs : List Process) → is_realtime m.sig ≡ true → (qs ≡ []) ⊎ ((q : Process) × (qs ≡ q ∷ []) × (q.pid ≡ p)) → above p (signalled_all m (pids qs) rs) ≡ above p rs
unfolding signalled_all
behind_all m p rs qs e (inl none) = ap (λ l. above p (signalled_all m (pids l) rs)) none
behind_all m p rs qs e (inr one) = ap (λ l. above p (signalled_all m (pids l) rs)) one.1 ∙ ap (λ n. above p (generated_for m (lookup n rs) rs)) one.2 ∙ ap (above p) (generated_alone m p (lookup p rs) rs e refl) ∙ behind_changed p (signalled m) (unseen_signalled m).pid rs

-- of one process those that pass are none or it
one_passes : (t : Process → Bool) (p : ℕ) (qs : List Process) → (qs ≡ []) ⊎ ((q : Process) × (qs ≡ q ∷ []) × (q.pid ≡ p)) → (filter t qs ≡ []) ⊎ ((q : Process) × (filter t qs ≡ q ∷ []) × (q.pid ≡ p))
one_passes t p qs (inl none) = inl (ap (filter t) none)
one_passes t p qs (inr one) = elim (t one.0) as (λ b. t one.0 ≡ b → (filter t qs ≡ []) ⊎ ((q : Process) × (filter t qs ≡ q ∷ []) × (q.pid ≡ p))) [
  | true ↦ λ e. inr (one.0, ap (filter t) one.1 ∙ ap (λ b. cond b (one.0 ∷ []) []) e, one.2)
  | false ↦ λ e. inl (ap (filter t) one.1 ∙ ap (λ b. cond b (one.0 ∷ []) []) e)
] refl

one_numbered : (p : ℕ) (rs : List Process) → IsRising rs → (numbered p rs ≡ []) ⊎ ((q : Process) × (numbered p rs ≡ q ∷ []) × (q.pid ≡ p))
one_numbered p rs up = by (lookup p rs) refl
  where
    by : (o : Option Process) → lookup p rs ≡ o → (numbered p rs ≡ []) ⊎ ((q : Process) × (numbered p rs ≡ q ∷ []) × (q.pid ≡ p))
    by None is = inl (numbered_none p rs is)
    by (Some q) is = inr (q, numbered_one p rs up q is, pid_looked p rs q is)

behind_sent : (me : Process) (target : Target) (m : PendingSignal) (p : ℕ) (rs : List Process) → is_realtime m.sig ≡ true → IsRising rs → above p (sent_among me (Some m) (targets me target (numbered p rs)) rs) ≡ above p rs
unfolding targets permitted sent_among
behind_sent me target m p rs e up = behind_all m p rs _ e (one_passes (may me (Some m.sig)) p _ (one_passes (is_target me target) p _ (one_numbered p rs up)))

-- the processes after p for which a signal would be queued stay the same
queuing_behind : (me : Process) (target : Target) (s : Option PendingSignal) (p : ℕ) (rs : List Process) → IsRising rs
    → queuers (number_of s) (permitted me (number_of s) (targets me target (above p (sent_among me s (targets me target (numbered p rs)) rs)))) ≡ queuers (number_of s) (permitted me (number_of s) (targets me target (above p rs)))
unfolding queuers
queuing_behind me target None p rs up = refl
queuing_behind me target (Some m) p rs up = by (is_realtime m.sig) refl
  where
    by : (b : Bool) → is_realtime m.sig ≡ b → queuers (Some m.sig) (permitted me (Some m.sig) (targets me target (above p (sent_among me (Some m) (targets me target (numbered p rs)) rs)))) ≡ queuers (Some m.sig) (permitted me (Some m.sig) (targets me target (above p rs)))
    by true e = ap (λ l. queuers (Some m.sig) (permitted me (Some m.sig) (targets me target l))) (behind_sent me target m p rs e up)
    by false e = none_queued m.sig _ e ∙ sym (none_queued m.sig _ e)

-- p is the first that is left
pub room_here : (n : ℕ) (me : Process) (target : Target) (s : Option ℕ) (p : ℕ) (rs : List Process) → IsRising rs → HaveRoom n (queuers_among me target s (left_of (Some p) rs)) → HaveRoom n (queuers_among me target s (numbered p rs))
unfolding targets queuers_among
room_here n me target s p rs up h =
    room_first n _ (queuers s (permitted me s (filter (is_target me target) (above p rs))))
    (subst (HaveRoom n) (ap (λ l. queuers s (permitted me s l)) (walk_splits (is_target me target) p rs up) ∙ queuing_append me s _ _) h)

-- once it got the signal there is room for those that are left then
pub room_left : (n m : ℕ) (me : Process) (target : Target) (s : Option PendingSignal) (p : ℕ) (next : Option ℕ) (rs mid : List Process) → IsRising rs → IsRising mid → mid ≡ sent_among me s (targets me target (numbered p rs)) rs → IsNext (is_target me target) p mid next
    → n ≤ m + length (queuers_among me target (number_of s) (numbered p rs)) → HaveRoom n (queuers_among me target (number_of s) (left_of (Some p) rs)) → HaveRoom m (queuers_among me target (number_of s) (left_of next mid))
unfolding targets queuers_among
room_left n m me target s p next rs mid up up_now is comes less h =
    let t = is_target me target in
    let k = number_of s in
    let all = ap (λ l. queuers k (permitted me k l)) (walk_splits t p rs up) ∙ queuing_append me k (filter t (numbered p rs)) (filter t (above p rs)) in
    let left = ap (λ l. queuers k (permitted me k l)) (rest_of_walk t p mid next up_now comes) ∙ ap (λ l. queuers k (permitted me k (filter t (above p l)))) is ∙ queuing_behind me target s p rs up in
    subst (HaveRoom m) (sym left) (room_rest n m _ _ less (subst (HaveRoom n) all h))

-- ---- one real-time signal

pub only_queued : (pool : Bool) (m : PendingSignal) → OnlySignals (queued pool m)
unfolding queued
only_queued pool m r = elim (pool && not (has_full_queue r)) as (λ b. let q = cond b (signalled m r) r in q ≡ record r { signals = q.signals; alarm = q.alarm }) [ true ↦ only_signalled m r | false ↦ refl ]

pub keeps_queued : {now : ℕ} (pool : Bool) (m : PendingSignal) → Keeps now (queued pool m)
unfolding queued
keeps_queued pool m = keeps_cond (λ r. pool && not (has_full_queue r)) (signalled m) (λ r. r) (keeps_signalled m) keeps_none

-- if there is room for it and a pool, it is generated
queued_is : (n : ℕ) (pool : Bool) (m : PendingSignal) (r : Process) → is_realtime m.sig ≡ true → HaveRoom n (queuers (Some m.sig) (r ∷ [])) → (0 < n → pool ≡ true) → queued pool m r ≡ signalled m r
unfolding queued queuers
queued_is n pool m r e room some = by (is_queuer m.sig r) refl
  where
    by : (b : Bool) → is_queuer m.sig r ≡ b → cond (pool && not (has_full_queue r)) (signalled m r) r ≡ signalled m r
    by true is = let free = room.free in let enough = room.enough in grind (arith, is, some, free, enough)
    by false is = cond_both (pool && not (has_full_queue r)) (signalled m r) r (λ q. q ≡ signalled m r) (λ t. refl) (λ f. sym (unqueued_same m r e is))

-- and at least so many pools are left: it is no queuer's, or one is used
pub pools_left : (n m : ℕ) (s : ℕ) (r : Process) → n ≤ m + 1 → (is_queuer s r ≡ false → n ≤ m) → n ≤ m + length (queuers (Some s) (r ∷ []))
unfolding queuers
pools_left n m s r most none = elim (is_queuer s r) as (λ b. is_queuer s r ≡ b → n ≤ m + length (cond b (r ∷ []) [])) [
  | true ↦ λ is. most
  | false ↦ λ is. let all = none is in omega (arith, all)
] refl

-- the signal is kept, or the pool is returned
abbrev pub comes_back : ℕ → Option RealtimePool → Process → Option RealtimePool → Type 0
comes_back n pool r left = (is_queuer n r ≡ true) ⊎ (left ≡ pool)

-- if a pool is taken, if there is one, and what is left is returned
pools_put : (s n mid room new : ℕ) (pool left : Option RealtimePool) (r : Process) → mid ≡ n - 1 → (0 < n → pool ≡ Some []) → (0 < n → mid < room)
    → (IsSome left → mid < room → new ≡ mid + 1) → mid ≤ new → comes_back s pool r left → n ≤ new + length (queuers (Some s) (r ∷ []))
pools_put s n mid room new pool left r rest some free kept more says = pools_left n new s r (omega (arith, rest, more)) (λ none. by (cases_lt 0 n) none says)
  where
    by : (0 < n) ⊎ (n ≤ 0) → is_queuer s r ≡ false → comes_back s pool r left → n ≤ new
    by (inr nothing) none says = omega (arith, nothing)
    by (inl there) none (inl keeps) = absurd (true≢false (sym keeps ∙ none))
    by (inl there) none (inr back) = let one = kept (subst IsSome (sym (back ∙ some there)) refl) (free there) in omega (arith, rest, one, there)

-- a process that queued it, with room for it and a pool, got it
pub queue_ends : (n p : ℕ) (m : PendingSignal) (pool left : Option RealtimePool) (old new : MachineView) → HasRun (queued (is_some pool) m) (comes_back m.sig pool) old.state.processes new.state.processes p left → is_realtime m.sig ≡ true
    → IfThere p old (λ q. HaveRoom n (queuers (Some m.sig) (q ∷ []))) → (0 < n → is_some pool ≡ true) → Changes 1 old new (with_processes old.state new.state.processes) (rechecks_by_signals (process new.state p) old)
    → Changes (slots_of_signal m.sig) old new (with_processes old.state (generated_for m (process old.state p) old.state.processes)) (rechecking_generated m (process old.state p) old.state.processes old.state.order old.to_recheck)
queue_ends n p m pool left old new ran realtime room some did =
    let it = record (ran.me.what) { pid = p } in
    let same = queued_is n (is_some pool) m it realtime (room it ran.me.found) some in
    let is = ran.is ∙ changed_same p (queued (is_some pool) m) (signalled m) old.state.processes did.costs.regular.rising it ran.me.found same in
    signal_ends m p old new ran.me.what ran.me.found (sym (realtime_effect p it.life m it.signals realtime)) (did.state ∙ ap (with_processes old.state) is) did.to_recheck did.foregrounds_unchecked did.costs

-- and no more pools are used then than were needed
pub queue_leaves : (n mid room after p : ℕ) (m : PendingSignal) (pool left : Option RealtimePool) (rs ts : List Process) → HasRun (queued (is_some pool) m) (comes_back m.sig pool) rs ts p left → mid ≡ n - 1 → (0 < n → pool ≡ Some []) → (0 < n → mid < room)
    → (IsSome left → mid < room → after ≡ mid + 1) → mid ≤ after → (r : Process) → lookup p rs ≡ Some r → n ≤ after + length (queuers (Some m.sig) (r ∷ []))
queue_leaves n mid room after p m pool left rs ts ran rest some free kept more r e =
    let it : r ≡ record (ran.me.what) { pid = p } = same_Some _ _ (sym e ∙ ran.me.found) in
    pools_put m.sig n mid room after pool left r rest some free kept more (subst (λ q. comes_back m.sig pool q left) (sym it) ran.says)

-- ---- one process that is selected

pub permitted_one : (me : Process) (s : Option ℕ) (q : Process) → may me s q ≡ true → permitted me s (q ∷ []) ≡ q ∷ []
unfolding permitted
permitted_one me s q e = rw e refl

pub permitted_none : (me : Process) (s : Option ℕ) (q : Process) → may me s q ≡ false → permitted me s (q ∷ []) ≡ []
unfolding permitted
permitted_none me s q e = rw e refl

-- it gets the signal, and is rechecked
pub sent_one : (me : Process) (m : PendingSignal) (q : Process) (p : ℕ) (rs : List Process) (order ns : List ℕ) → q.pid ≡ p → may me (Some m.sig) q ≡ true
    → (sent_among me (Some m) (q ∷ []) rs ≡ generated_for m (lookup p rs) rs) × (rechecking_signalled me (Some m) (q ∷ []) rs order ns ≡ rechecking_generated m (lookup p rs) rs order ns)
unfolding sent_among signalled_all rechecking_signalled rechecking_all
sent_one me m q p rs order ns named e = (
  ap (λ l. signalled_all m (pids l) rs) (permitted_one me (Some m.sig) q e) ∙ ap (λ n. generated_for m (lookup n rs) rs) named,
  ap (λ l. rechecking_all m (pids l) rs order ns) (permitted_one me (Some m.sig) q e) ∙ ap (λ n. rechecking_generated m (lookup n rs) rs order ns) named,
)

-- ---- the outcome of a send

-- one queue that is full refuses it
pub full_refuses : (qs : List Process) (other : Sending) → list_any has_full_queue qs ≡ true → found.QueueFull ≡ queued_for true qs other
full_refuses [] other e = absurd (cc)
full_refuses (q ∷ qs) other e = rw e refl

-- if none is full, lack of memory refuses it
pub memory_refuses : (qs : List Process) (other : Sending) → list_any has_full_queue qs ≡ false → 0 < length qs → found.NoMemory ≡ queued_for false qs other
memory_refuses [] other e some = absurd (omega (arith, some))
memory_refuses (q ∷ qs) other e some = rw e refl

-- otherwise it goes as it finds them
pub goes_on : (qs : List Process) (other : Sending) → list_any has_full_queue qs ≡ false → other ≡ queued_for true qs other
goes_on [] other e = refl
goes_on (q ∷ qs) other e = rw e refl

-- what a survey says of the queues
pub surveyed : (me : Process) (target : Target) (n : ℕ) (rs : List Process) (survey : Survey) → survey ≡ survey_of me n (targets me target rs)
    → (survey.is_full ≡ list_any has_full_queue (queuers_among me target (Some n) rs)) × (survey.queuers ≡ length (queuers_among me target (Some n) rs))
unfolding survey_of queuers_among
surveyed me target n rs survey is = (ap (λ (s : Survey). s.is_full) is, ap (λ (s : Survey). s.queuers) is)

-- if none is found that may be signalled, none gets it
nobody_sent : (me : Process) (s : Option ℕ) (qs : List Process) → is_sent (sending_found me s qs) ≡ false → permitted me s qs ≡ []
unfolding permitted
nobody_sent me s [] e = refl
nobody_sent me s (q ∷ qs) e = by (filter (may me s) (q ∷ qs)) e
  where
    by : (l : List Process) → is_sent (sending_permitted l) ≡ false → l ≡ []
    by [] e = refl
    by (x ∷ xs) e = absurd (true≢false e)

-- it is sent to the selected processes exactly if its result says so
pub sent_found : (me : Process) (target : Target) (k : Option PendingSignal) (rs : List Process) (order ns : List ℕ) (answer : Sending) → answer ≡ sending me target (number_of k) rs
    → (sent me target k rs ≡ sent_as answer me target k rs) × (rechecking_signalled me k (targets me target rs) rs order ns ≡ rechecking_as answer me k target rs order ns)
unfolding sending sent sent_among signalled_all rechecking_signalled rechecking_all
sent_found me target k rs order ns answer is = by (is_sent answer) refl k (λ e. nobody_sent me (number_of k) (targets me target rs) (ap is_sent (sym is) ∙ e))
  where
    by : (b : Bool) → is_sent answer ≡ b → (k : Option PendingSignal) → (is_sent answer ≡ false → permitted me (number_of k) (targets me target rs) ≡ [])
        → (sent me target k rs ≡ cond b (sent me target k rs) rs) × (rechecking_signalled me k (targets me target rs) rs order ns ≡ cond b (rechecking_signalled me k (targets me target rs) rs order ns) ns)
    by true e k none = (refl, refl)
    by false e None none = (refl, refl)
    by false e (Some m) none = (ap (λ l. signalled_all m (pids l) rs) (none e), ap (λ l. rechecking_all m (pids l) rs order ns) (none e))

-- ---- sends, as a machine does them

-- one that is sent to those that are found
pub sends_found : {n : ℕ} (me : Process) (target : Target) (k : Option PendingSignal) (old new : MachineView) (answer : Sending) → answer ≡ sending me target (number_of k) old.state.processes
    → Changes n old new (with_processes old.state (sent me target k old.state.processes)) (rechecking_signalled me k (targets me target old.state.processes) old.state.processes old.state.order old.to_recheck) → Sends answer me target k n old new
sends_found me target k old new answer is did =
    let same = sent_found me target k old.state.processes old.state.order old.to_recheck answer is in
    record { state = did.state ∙ ap (with_processes old.state) same.0; to_recheck = did.to_recheck ∙ same.1; foregrounds_unchecked = did.foregrounds_unchecked; costs = did.costs }

-- after a look
pub sends_looked : {n m : ℕ} (me : Process) (target : Target) (k : Option PendingSignal) (old mid new : MachineView) (answer : Sending) → Looks m old mid → Sends answer me target k n mid new → Sends answer me target k (n + m) old new
sends_looked me target k old mid new answer looks did = record {
  state = did.state ∙ ap (λ (t : State). with_processes t (sent_as answer me target k t.processes)) looks.same.state;
  to_recheck = did.to_recheck ∙ ap (λ (t : State). rechecking_as answer me k target t.processes t.order mid.to_recheck) looks.same.state ∙ ap (rechecking_as answer me k target old.state.processes old.state.order) looks.same.to_recheck;
  foregrounds_unchecked = did.foregrounds_unchecked ∙ looks.same.foregrounds_unchecked;
  costs = record { visits = omega (arith, did.costs.visits, looks.visits); no_fewer = le_trans looks.no_fewer did.costs.no_fewer; groups_at_risk = did.costs.groups_at_risk ∙ looks.same.groups_at_risk; regular = looks.regular };
}

-- or nothing is sent
pub sends_none : {m : ℕ} (n : ℕ) (me : Process) (target : Target) (k : Option PendingSignal) (old new : MachineView) (answer : Sending) → is_sent answer ≡ false → Looks m old new → Sends answer me target k (n + m) old new
sends_none n me target k old new answer e looks = record {
  state = looks.same.state ∙ ap (λ b. with_processes old.state (cond b (sent me target k old.state.processes) old.state.processes)) (sym e);
  to_recheck = looks.same.to_recheck ∙ ap (λ b. cond b (rechecking_signalled me k (targets me target old.state.processes) old.state.processes old.state.order old.to_recheck) old.to_recheck) (sym e);
  foregrounds_unchecked = looks.same.foregrounds_unchecked;
  costs = record { visits = omega (arith, looks.visits); no_fewer = looks.no_fewer; groups_at_risk = looks.same.groups_at_risk; regular = looks.regular };
}

-- ---- a standard signal, or none

pub standard_queuers : (me : Process) (target : Target) (k : Option PendingSignal) (rs : List Process) → ((m : PendingSignal) → k ≡ Some m → is_realtime m.sig ≡ false) → queuers_among me target (number_of k) rs ≡ []
unfolding queuers_among queuers
standard_queuers me target None rs standard = refl
standard_queuers me target (Some m) rs standard = none_queued m.sig (permitted me (Some m.sig) (targets me target rs)) (standard m refl)

-- no process needs room
pub room_none : (n : ℕ) (qs : List Process) → qs ≡ [] → HaveRoom n qs
room_none n qs e = subst (HaveRoom n) (sym e) (record { free = refl; enough = omega arith })

-- a count that lets more
pub sends_more : {n : ℕ} (m : ℕ) (me : Process) (target : Target) (k : Option PendingSignal) (old new : MachineView) (answer : Sending) → Sends answer me target k n old new → Sends answer me target k (n + m) old new
sends_more m me target k old new answer did = record { state = did.state; to_recheck = did.to_recheck; foregrounds_unchecked = did.foregrounds_unchecked; costs = record { visits = omega (arith, did.costs.visits); no_fewer = did.costs.no_fewer; groups_at_risk = did.costs.groups_at_risk; regular = did.costs.regular } }
