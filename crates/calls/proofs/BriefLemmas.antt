-- How many slots a wait and a kill read, and which processes are rechecked after them.
use Rattle.std.proofs.Common.{subst, ◌≡◌, ℕ, ℤ, ◌+◌, ◌≤◌, true, false, cond, ◌==◌, refl, ap, sym, ◌∙◌, arith, List, [], ◌∷◌, length, filter, Option, Some, None, Result, Ok}
use Rattle.std.proofs.lemmas.Bool.{eqb-true}
use Rattle.std.proofs.lemmas.List.{length-map}
use Rattle.posix.specs.declared.target.Target.{Target}
use Rattle.posix.specs.declared.target.Target.TheVariants as whom
use Rattle.posix.specs.declared.errno.Errno.{Errno}
use Rattle.posix.specs.Common.{Process, argument, IsRising, has_pid, lookup, at, changed, pids, removed, State, is_in, without, has_place, may, finish, finished, signal_or_none, message, number_of, targets, permitted, sent, sent_among, IsRegular, CONT, is_realtime}
use Rattle.posix.specs.declared.process.PendingSignal.{PendingSignal}
use Rattle.posix.specs.declared.process.Sending.{Sending}
use Rattle.posix.proofs.TableLemmas.{rising_filter}
use Rattle.posix.proofs.MapLemmas.{lookup_on, at_keeps, at_pid}
use Rattle.calls.proofs.ContinueLemmas.{sent_slots}
use Rattle.posix.proofs.WalkLemmas.{numbered_one, numbered_none}
use Rattle.jobs.specs.IndexedTables.{takes_signal}
use Rattle.life.specs.declared.caller.Caller.{Caller}
use Rattle.life.specs.Callers.{caller_of}
use Rattle.life.specs.Machines.{MachineView, AreSame, Looks, with_processes}
use Rattle.life.specs.Queues.{is_sent, sent_as, rechecking_as}
use Rattle.life.proofs.SendLemmas.{targets_nobody, rechecked_nobody}
use Rattle.life.specs.Rechecks.{AreTaking, is_one, rechecking_signalled, slots_of_send, slots_of_survey_of_one, without_gone}
use Rattle.life.specs.Foregrounds.{also_in}
use Rattle.posix.proofs.OrderLemmas.{distinct_pids}
use Rattle.life.proofs.TakingLemmas.{taking_all}
use Rattle.calls.specs.Outcomes.{CostsAtMost, IsQuiet, CostsWithRechecks, AreFew, is_cont, slots_of_kill, slots_before}
use Rattle.calls.proofs.KillLemmas.{number_is}
use Rattle.life.specs.declared.consoles.Unchecked.TheVariants.{Nothing, In}
use Rattle.calls.specs.Counts.{slots_of_rechecks, slots_of_checking}
use Rattle.calls.proofs.CountLemmas.{rechecks_none, rechecks_taking}

-- ---- the processes that are rechecked

-- a signal stays chosen when a call is finished
taking_still : (results : List (ℕ × ℤ)) (p : ℕ) (rs : List Process) (ns : List ℕ) → AreTaking rs ns → AreTaking (changed p (finished results) rs) ns
unfolding finished changed
taking_still results p rs ns h q e =
    let it = h q e in
    (at p (finished results) it.0, lookup_on (at p (finished results)) (at_pid p (finished results) (λ r. refl)) q rs it.0 it.1, at_keeps takes_signal p (finished results) (λ r. refl) it.0 ∙ it.2)

-- ---- what is quiet, and looked at

-- a quiet machine is so after a look
pub quiet_on : (p : ℕ) (old mid : MachineView) → AreSame old mid → IsQuiet p old → IsQuiet p mid
quiet_on p old mid same h = record { none = same.to_recheck ∙ h.none; checked = same.foregrounds_unchecked ∙ h.checked; place = ap (λ (s : State). has_place s p) same.state ∙ h.place }

-- what is brief after something is so before it, if that changes no console
pub brief_behind : (n k m : ℕ) (old mid new : MachineView) → mid.state.consoles ≡ old.state.consoles → mid.visits ≤ old.visits + k → n + k ≤ m → CostsWithRechecks n mid new → CostsWithRechecks m old new
brief_behind n k m old mid new same read most h = record { reads = let more = h.reads in omega (arith, read, more, most); unchecked = h.unchecked; consoles = h.consoles ∙ same }

-- so after a look
pub brief_on : (n k m : ℕ) (old mid new : MachineView) → AreSame old mid → mid.visits ≤ old.visits + k → n + k ≤ m → CostsWithRechecks n mid new → CostsWithRechecks m old new
brief_on n k m old mid new same = brief_behind n k m old mid new (ap (λ (s : State). s.consoles) same.state)

-- how many slots were read by then
pub brief_visits : (n : ℕ) (old new : MachineView) → CostsWithRechecks n old new → new.visits ≤ old.visits + n
brief_visits n old new h = let reads = h.reads in omega (arith, reads)

-- what leaves nothing to settle is brief
pub brief_alone : (k : ℕ) (old new : MachineView) → new.to_recheck ≡ [] → new.foregrounds_unchecked ≡ Nothing → new.state.consoles ≡ old.state.consoles → new.visits ≤ old.visits + k → CostsWithRechecks k old new
brief_alone k old new none checked consoles read =
    let rechecks = rechecks_none new.state.processes None new.to_recheck none in
    let checks = ap slots_of_checking checked in
    record { reads = omega (arith, rechecks, checks, read); unchecked = subst AreFew (sym checked) tt; consoles = consoles }

-- so is a look
pub brief_look : (p k : ℕ) (old new : MachineView) → IsQuiet p old → AreSame old new → new.visits ≤ old.visits + k → CostsWithRechecks k old new
brief_look p k old new h same read = brief_alone k old new (same.to_recheck ∙ h.none) (same.foregrounds_unchecked ∙ h.checked) (ap (λ (s : State). s.consoles) same.state) read

-- so is what reads no more
pub brief_more : (n m : ℕ) (old new : MachineView) → n ≤ m → CostsWithRechecks n old new → CostsWithRechecks m old new
brief_more n m old new most h = record { reads = let read = h.reads in omega (arith, read, most); unchecked = h.unchecked; consoles = h.consoles }

-- and a call that is finished
pub brief_done : (p : ℕ) (results : List (ℕ × ℤ)) (old new : MachineView) → IsQuiet p old → new.state ≡ finish old.state p results → (has_place old.state p ≡ true → CostsAtMost 1 old new) → CostsWithRechecks 1 old new
brief_done p results old new h is costs = let c = costs h.place in brief_alone 1 old new (c.to_recheck ∙ h.none) (c.foregrounds_unchecked ∙ h.checked) (ap (λ (s : State). s.consoles) is) c.visits

-- ---- a wait

-- if the record of a child was removed, and its parent is in the run queue, no process is to be rechecked
gone_alone : (child p : ℕ) (order : List ℕ) → is_in p order ≡ true → without_gone child p order [] ≡ []
unfolding without
gone_alone child p order place = rw place refl

-- a zombie was collected, and then reported
pub brief_reaped : (p child : ℕ) (results : List (ℕ × ℤ)) (old mid new : MachineView) (it : Process) → 1 ≤ it.session → IsQuiet p old → mid.state ≡ record (old.state) { processes = removed child old.state.processes } → mid.to_recheck ≡ without_gone child p old.state.order old.to_recheck
    → mid.foregrounds_unchecked ≡ also_in it.session old.foregrounds_unchecked → mid.visits ≤ old.visits + 2 → new.state ≡ finish mid.state p results → (has_place mid.state p ≡ true → CostsAtMost 1 mid new) → CostsWithRechecks 4 old new
brief_reaped p child results old mid new it least h gone list lost read is costs =
    let c = costs (ap (λ (s : State). has_place s p) gone ∙ h.place) in
    let none : new.to_recheck ≡ [] = c.to_recheck ∙ list ∙ ap (without_gone child p old.state.order) h.none ∙ gone_alone child p old.state.order h.place in
    let lost : new.foregrounds_unchecked ≡ In it.session = c.foregrounds_unchecked ∙ lost ∙ ap (also_in it.session) h.checked in
    record {
      reads =
          let rechecks = rechecks_none new.state.processes None new.to_recheck none in
          let checks = ap slots_of_checking lost in
          let one = c.visits in
          omega (arith, read, one, rechecks, checks);
      unchecked = subst AreFew (sym lost) (λ none. omega (arith, least, none));
      consoles = ap (λ (s : State). s.consoles) (is ∙ ap (λ (s : State). finish s p results) gone);
    }

-- ---- a kill

-- they rise, and there is one at most
one_target : (me : Process) (p : ℕ) (sig : Option ℕ) (rs : List Process) → IsRising rs → IsRising (permitted me sig (targets me (whom.Process p) rs)) × (length (permitted me sig (targets me (whom.Process p) rs)) ≤ 1)
unfolding permitted targets
one_target me p sig rs up = (rising_filter (may me sig) (filter (has_pid p) rs) (rising_filter (has_pid p) rs up), few (lookup p rs) refl)
  where
    few : (o : Option Process) → lookup p rs ≡ o → length (filter (may me sig) (filter (has_pid p) rs)) ≤ 1
    few None e = rw (numbered_none p rs e) (omega arith)
    few (Some r) e = rw (numbered_one p rs up r e) (elim (may me sig r) as (λ b. length (cond b (r ∷ []) []) ≤ 1) [ true ↦ omega arith | false ↦ omega arith ])

-- one process gets a signal other than CONT, or none
taking_sent : (me : Process) (p : ℕ) (k : Option PendingSignal) (rs : List Process) (order : List ℕ) → is_cont (Ok (number_of k)) ≡ false → IsRising rs
    → let new = rechecking_signalled me k (targets me (whom.Process p) rs) rs order [] in AreTaking (sent me (whom.Process p) k rs) new × (length new ≤ 1)
unfolding sent sent_among rechecking_signalled is_in
taking_sent me p None rs order plain up = (λ q e. absurd (cc), omega arith)
taking_sent me p (Some m) rs order plain up =
    let qs = permitted me (Some m.sig) (targets me (whom.Process p) rs) in
    let one = one_target me p (Some m.sig) rs up in
    let all = taking_all m (pids qs) order rs plain (distinct_pids qs one.0) in
    let many = length-map qs (λ r. r.pid) in
    let few = all.1 in
    let most = one.1 in
    (all.0, omega (arith, few, many, most))

-- at least one slot
pub kill_least : (sig : Result (Option ℕ) Errno) → 1 ≤ slots_of_kill sig
kill_least sig = elim (is_cont sig) as (λ b. 1 ≤ cond b 12 (4 + slots_before sig)) [ true ↦ omega arith | false ↦ omega arith ]

-- and those of the send itself
sending_least : (s : Option ℕ) → 2 + slots_of_send s + slots_of_survey_of_one s ≤ slots_of_kill (Ok s)
sending_least None = omega arith
sending_least (Some n) = elim (n == CONT) as (λ b. (n == CONT) ≡ b → 2 + cond b 3 1 + cond (is_realtime n) 2 0 ≤ cond b 12 (4 + cond (is_realtime n) 2 0)) [
  | true ↦ λ e. let plain = ap is_realtime (eqb-true n CONT e) in rw plain (omega arith)
  | false ↦ λ e. omega arith
] refl

-- it reads so many slots with those of rechecking
kill_slots : (me : Process) (p : ℕ) (k : Option PendingSignal) (results : List (ℕ × ℤ)) (rs : List Process) (order : List ℕ) → IsRising rs
    → 2 + slots_of_send (number_of k) + slots_of_survey_of_one (number_of k) + slots_of_rechecks (changed me.pid (finished results) (sent me (whom.Process p) k rs)) None (rechecking_signalled me k (targets me (whom.Process p) rs) rs order []) ≤ slots_of_kill (Ok (number_of k))
unfolding rechecking_signalled slots_of_rechecks
kill_slots me p None results rs order up = omega arith
kill_slots me p (Some m) results rs order up = elim (m.sig == CONT) as (λ b. (m.sig == CONT) ≡ b → 2 + cond b 3 1 + cond (is_realtime m.sig) 2 0 + slots_of_rechecks (changed me.pid (finished results) (sent me (whom.Process p) (Some m) rs)) None (rechecking_signalled me (Some m) (targets me (whom.Process p) rs) rs order [])
    ≤ cond b 12 (4 + cond (is_realtime m.sig) 2 0)) [
      | true ↦ λ e.
          let most = sent_slots results me p m rs order up in
          let plain : is_realtime m.sig ≡ false = ap is_realtime (eqb-true m.sig CONT e) in
          rw plain (omega (arith, most))
      | false ↦ λ e.
          let taken = taking_sent me p (Some m) rs order e up in
          let one = taken.1 in
          let most = rechecks_taking _ None _ (taking_still results me.pid _ _ taken.0) in
          omega (arith, most, one)
    ] refl

-- it does if at most one process is selected
one_slots : (me : Process) (to : Target) (k : Option PendingSignal) (results : List (ℕ × ℤ)) (rs : List Process) (order : List ℕ) → is_one to ≡ true → IsRising rs
    → 2 + slots_of_send (number_of k) + slots_of_survey_of_one (number_of k) + slots_of_rechecks (changed me.pid (finished results) (sent me to k rs)) None (rechecking_signalled me k (targets me to rs) rs order []) ≤ slots_of_kill (Ok (number_of k))
unfolding slots_of_rechecks
one_slots me (whom.Process p) k results rs order one up = kill_slots me p k results rs order up
one_slots me whom.Nobody k results rs order one up = let least = sending_least (number_of k) in rw (targets_nobody me rs, rechecked_nobody me k rs order []) (omega (arith, least))
one_slots me to k results rs order one up = absurd (cc)

-- and nothing more if it isn't sent
answer_slots : (answer : Sending) (me : Process) (to : Target) (k : Option PendingSignal) (results : List (ℕ × ℤ)) (rs : List Process) (order : List ℕ) → is_one to ≡ true → IsRising rs
    → 2 + slots_of_send (number_of k) + slots_of_survey_of_one (number_of k) + slots_of_rechecks (changed me.pid (finished results) (sent_as answer me to k rs)) None (rechecking_as answer me k to rs order []) ≤ slots_of_kill (Ok (number_of k))
unfolding slots_of_rechecks
answer_slots answer me to k results rs order one up = elim (is_sent answer) as (λ b. 2 + slots_of_send (number_of k) + slots_of_survey_of_one (number_of k)
    + slots_of_rechecks (changed me.pid (finished results) (cond b (sent me to k rs) rs)) None (cond b (rechecking_signalled me k (targets me to rs) rs order []) []) ≤ slots_of_kill (Ok (number_of k))) [
      | true ↦ one_slots me to k results rs order one up
      | false ↦ let least = sending_least (number_of k) in omega (arith, least)
    ]

-- what a send to this target reads, with this signal, whatever its outcome
pub brief_send : (me : Process) (to : Target) (named : Result (Option ℕ) Errno) (word : ℤ) (sig : Option ℕ) (value : ℤ) (k : Option PendingSignal) (answer : Sending) (results : List (ℕ × ℤ)) (old mid new : MachineView) → is_one to ≡ true → IsQuiet me.pid old → named ≡ signal_or_none word → named ≡ Ok sig → k ≡ message me.pid value sig
    → IsRegular old.state → mid.state ≡ with_processes old.state (sent_as answer me to k old.state.processes) → mid.to_recheck ≡ rechecking_as answer me k to old.state.processes old.state.order old.to_recheck → mid.foregrounds_unchecked ≡ old.foregrounds_unchecked
    → mid.visits ≤ old.visits + 1 + slots_of_send (number_of k) + slots_of_survey_of_one (number_of k) → new.state ≡ finish mid.state me.pid results → (has_place mid.state me.pid ≡ true → CostsAtMost 1 mid new)
    → CostsWithRechecks (slots_of_kill (signal_or_none word)) old new
brief_send me to named word sig value k answer results old mid new one h known ok is regular state list still most done costs =
    let c = costs (ap (λ (s : State). has_place s me.pid) state ∙ h.place) in
    let rs = old.state.processes in
    let ns = c.to_recheck ∙ list ∙ ap (rechecking_as answer me k to rs old.state.order) h.none in
    let checked = c.foregrounds_unchecked ∙ still ∙ h.checked in
    let finishes = done ∙ ap (λ (s : State). finish s me.pid results) state in
    let now : new.state.processes ≡ changed me.pid (finished results) (sent_as answer me to k rs) = ap (λ (s : State). s.processes) finishes in
    let last = c.visits in
    let checks = ap slots_of_checking checked in
    let rechecks = ap (λ ts. slots_of_rechecks ts None new.to_recheck) now ∙ ap (slots_of_rechecks (changed me.pid (finished results) (sent_as answer me to k rs)) None) ns in
    subst (λ w. CostsWithRechecks (slots_of_kill w) old new) (ap Ok (number_is me.pid value sig k is) ∙ sym ok ∙ known) (record {
      reads = let all = answer_slots answer me to k results rs old.state.order one regular.rising in omega (arith, last, most, checks, rechecks, all);
      unchecked = subst AreFew (sym checked) tt;
      consoles = ap (λ (s : State). s.consoles) finishes;
    })

-- the same of a caller that was looked at, which names the target
pub brief_sent_as : (p : ℕ) (old mid new : MachineView) (me : Process) (d : Caller) (f : Caller → Target) (to : Target) → Looks 1 old mid → d.pid ≡ p → d ≡ caller_of me → to ≡ f d → is_one (f (caller_of me)) ≡ true → IsQuiet p old
    → (is_one to ≡ true → IsQuiet d.pid mid → CostsWithRechecks (slots_of_kill (signal_or_none d.r2)) mid new) → CostsWithRechecks (slots_of_kill (signal_or_none (argument me 2)) + 1) old new
brief_sent_as p old mid new me d f to looks named is target one quiet brief =
    let same : to ≡ f (caller_of me) = target ∙ ap f is in
    let sent = brief (ap is_one same ∙ one) (subst (λ q. IsQuiet q mid) (sym named) (quiet_on p old mid looks.same quiet)) in
    brief_on _ 1 _ old mid _ looks.same looks.visits (omega arith) (subst (λ (k : Caller). CostsWithRechecks (slots_of_kill (signal_or_none k.r2)) mid new) is sent)
