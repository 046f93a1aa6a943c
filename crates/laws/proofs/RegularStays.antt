-- Each event keeps a state regular.
use Rattle.std.proofs.Common.{◌≡◌, ◌≢◌, ◌<◌, arith, ℕ, ◌+◌, ◌≤◌, Bool, true, false, not, refl, ap, sym, ◌∙◌, subst, List, [], ◌∷◌, ◌++◌, take, length, is_some, Option, Some, None, ◌==◌, ℤ, pos, inl, inr, negsuc}
use Rattle.std.specs.List.{AllByRecursion}
use Rattle.std.proofs.lemmas.Bool.{eqb-true, eqb-false, cond_both, and_parts, or_cases, or_from, false_from_ne_true}
use Rattle.std.proofs.lemmas.Bool.Decides.{nat_tests}
use Rattle.posix.specs.declared.call.Call.{Call}
use Rattle.posix.specs.declared.call.Call.TheVariants.{Fork, SchedYield, Sigaction, Sigprocmask, Sigpending, Alarm, Setpgid, Setsid, Setctty, Tcsetpgrp, Settostop, Read, Write}
use Rattle.posix.specs.declared.event.Event.{Event}
use Rattle.posix.specs.declared.event.Event.TheVariants.{Step, Tick, Key, Hangup}
use Rattle.posix.specs.declared.errno.Errno.TheVariants.{EAGAIN}
use Rattle.posix.specs.declared.entry.Entry.{Entry}
use Rattle.posix.specs.declared.process.PendingSignal.{PendingSignal}
use Rattle.posix.specs.declared.process.Report.TheVariants as found
use Rattle.posix.specs.declared.target.Target.{Target}
use Rattle.posix.specs.Common.{word_of, set_in, exited, killed, Process, is_zombie, argument, IsRising, lookup, removed, pids, State, is_in, change, go_last, current, next_pid, Outcome, Reply, finished, finish_call, plain, written, refusal, action, noticed, child_signal, newly_orphaned, handles, returned, set_mask, born, child_of, heir_in, marked_as, leave_children_and_die, is_dropping, drop_child, notice_of_end, zombies_of, tell_of_all, status_of, hup_and_cont_orphans, hang_up, end_process, results_of, results_of_nothing, news_told, take_out, sent, sent_among, permitted, targets, message, give_credentials, give_signals, holding, pending_set, executed, most_ticks, due_in, ticks_in, pass_time, IsRegular, IsAhead, CanInherit, IsDistinct, give_places, clear_foregrounds, settle, IsStep, happens, tick, rotate, act, enter, set_cpu, out_of_call, Console, console_of, acquired, with_foreground, with_tostop, line_taken, bytes_in, terminal, change_console, may_acquire, finish_moved, with_bytes}
use Rattle.posix.proofs.HeirLemmas.{heir_inherits}
use Rattle.posix.proofs.TableLemmas.{pid_looked}
use Rattle.posix.proofs.MemberLemmas.{in_append, in_first, apart_rest}
use Rattle.posix.proofs.RegularLemmas.{Keeps, keeps_none, keeps_then, keeps_set_cpu, keeps_news_told, keeps_handles, keeps_take_out, keeps_noticed, keeps_with_alarm, due_ahead, placed_least, regular_as, regular_change, regular_lose, regular_depart, regular_halt, regular_inserted, regular_removed, regular_pass}
use Rattle.posix.proofs.ChangeLemmas.{regular_stop, regular_signalled}
use Rattle.posix.proofs.HupAndContLemmas.{regular_hup_and_cont_orphans}
use Rattle.posix.proofs.GroupLemmas.{regular_move, regular_session, keeps_executed}
use Rattle.posix.proofs.OrderLemmas.{regular_last, first_in}
use Rattle.posix.proofs.ReportLemmas.{reported, not_first}
use Rattle.posix.proofs.NextLemmas.{new_number}
use Rattle.posix.proofs.SettleLemmas.{wakes_placed}
use Rattle.posix.proofs.ConsoleLemmas.{consoles_acquired, regular_consoles, regular_change_console, regular_signalled_group, regular_cleared, regular_hung_up, regular_key, regular_hangup}
use Rattle.laws.proofs.QuietOperations.{IsGone, AllGone, each_zombie, gone_changed, gone_noticed, still_gone}
use Rattle.laws.proofs.ToldLines.{IsLiving}
use Rattle.laws.proofs.ToldOutcomes.{gone_departed, children_gone, zombies_rise, not_among, gone_told, gone_hup_and_cont, living_hung_up}
use Rattle.laws.proofs.WokenLemmas.{by_event, given_places, distinct_given, all_wake}
use Rattle.posix.proofs.AttemptLemmas.{Meets, Retries, Ways, named_there}
use Rattle.posix.proofs.DeliveryLemmas.{Deliveries, by_return, by_act, by_step}

-- ---- changes that keep

-- what of a process is regular or not
abbrev Seen : Type 0
Seen = ℕ × ℕ × ℕ × ℕ × Bool × Option ℕ

abbrev seen_of : Process → Seen
seen_of r = (r.pid, r.parent, r.group, r.session, is_zombie r.life, r.alarm)

-- it stays
keeps_seen : {now : ℕ} (f : Process → Process) → ((r : Process) → seen_of (f r) ≡ seen_of r) → Keeps now f
keeps_seen {now} f same = record {
  pid = λ r. ap (λ (t : Seen). t.0) (same r);
  parent = λ r. ap (λ (t : Seen). t.1) (same r);
  group = λ r. ap (λ (t : Seen). t.2) (same r);
  session = λ r. ap (λ (t : Seen). t.3) (same r);
  zombie = λ r. ap (λ (t : Seen). t.4) (same r);
  alarm = λ r h. subst (λ (t : Seen). IsAhead now t.5) (sym (same r)) h;
}

-- results that are written
keeps_finished : {now : ℕ} (results : List (ℕ × ℤ)) → Keeps now (finished results)
unfolding finished
keeps_finished results = keeps_seen (finished results) (λ r. refl)

-- ---- ends

-- a notice of an end
regular_noticed : (s : State) (parent child status : ℕ) → IsRegular s → child ≢ 1 → IsGone s.processes child → IsRegular (notice_of_end s parent child status)
unfolding notice_of_end
regular_noticed s parent child status i other gone =
    let signal = child_signal child status in
    let told = change s parent (noticed signal) in
    let keeps = keeps_noticed {now = s.ticks} signal in
    let still : IsRegular told = regular_change parent (noticed signal) s keeps i in
    let there = gone_changed parent child (noticed signal) keeps.pid keeps.zombie s.processes gone in
    cond_both (is_dropping parent s.processes) (drop_child told child) told IsRegular
    (λ e. regular_as _ (drop_child told child) refl refl refl refl refl (regular_removed child there.what told still other there.found there.dead)) (λ e. still)

-- none of several is process 1
abbrev AllOthers : List Process → Type 0
AllOthers zs = AllByRecursion (λ (z : Process). z.pid ≢ 1) zs

-- notices of several ends
regular_told : (s : State) (heir : ℕ) (zs : List Process) → IsRising zs → AllOthers zs → AllGone s.processes zs → IsRegular s → IsRegular (tell_of_all s heir zs)
unfolding tell_of_all IsRising
regular_told s heir [] up others gone i = i
regular_told s heir (z ∷ zs) up others gone i =
    let one = notice_of_end s heir z.pid (status_of z.life) in
    let stay = λ (c : ℕ) (above : z.pid < c) (g : IsGone s.processes c). gone_noticed s heir z.pid (status_of z.life) c (λ e. absurd (omega (arith, above, e))) g in
    regular_told one heir zs up.1 others.1 (still_gone z.pid s.processes one.processes stay zs up.0 gone.1) (regular_noticed s heir z.pid (status_of z.life) i others.0 gone.0)

-- no child of a process is process 1
children_others : (s : State) → IsRegular s → (p : ℕ) → 1 ≤ p → AllOthers (zombies_of p s.processes)
children_others s i p least = each_zombie _ p s.processes i.rising (λ c z found child dead.
    let named : z.pid ≡ c = pid_looked c s.processes z found in
    subst (λ n. n ≢ 1) (sym named) (not_first s i p c true least (record { what = z; found = found; parent = eqb-true _ _ child; dead = dead })))

-- the end of a process other than process 1
regular_gone : (s : State) (p parent heir w : ℕ) → 1 ≤ p → p ≢ 1 → IsLiving s p → CanInherit s.processes p heir → IsRegular s
    → IsRegular (notice_of_end (hup_and_cont_orphans s.processes (tell_of_all (leave_children_and_die s p heir w) heir (zombies_of p s.processes))) parent p w)
regular_gone s p parent heir w least other me inherits i =
    let gone = leave_children_and_die s p heir w in
    let zs = zombies_of p s.processes in
    let told = tell_of_all gone heir zs in
    let still = regular_told gone heir zs (zombies_rise s p i.rising) (children_others s i p least) (children_gone s p heir w i.rising) (regular_depart p heir w least other s i inherits) in
    let here = gone_hup_and_cont (newly_orphaned s.processes told.processes) told p still.rising (gone_told gone heir zs p (not_among s p p i.rising me) (gone_departed s p heir w me)) in
    regular_noticed (hup_and_cont_orphans s.processes told) parent p w (regular_hup_and_cont_orphans s.processes told still) other here

-- an end, of process 1 too: its session's terminal is hung up before
regular_end : (s : State) (r : Process) (status : ℕ) → is_in r.pid s.order ≡ true → IsRegular s → IsRegular (end_process s r status).state
unfolding end_process
regular_end s r status place i =
    let there = i.placed r.pid place in
    let t = hang_up s r in
    let me : IsLiving t r.pid = living_hung_up s r r.pid i.rising (record { what = there.what; found = there.found; lives = there.living }) in
    let still = regular_hung_up s r i in
    cond_both (r.pid == 1) _ _ (λ (o : Outcome). IsRegular o.state) (λ e. regular_halt status t still)
    (λ e. regular_gone t r.pid r.parent (heir_in t.processes r.pid) status (placed_least s i r.pid there) (eqb-false _ _ e) me (heir_inherits t.processes r.pid) still)

-- ---- deliveries

-- a regular state in which r has a place
record IsActing (r : Process) (t : State) : Type 0 where
  regular : IsRegular t
  place : is_in r.pid t.order ≡ true

acts_change : (r : Process) (t : State) (f : Process → Process) → Keeps t.ticks f → IsActing r t → IsActing r (change t r.pid f)
acts_change r t f k b = record { regular = regular_change r.pid f t k b.regular; place = b.place }

regular_deliveries : (r : Process) → Deliveries (λ o. IsRegular o.state) (IsActing r) r
unfolding returned
regular_deliveries r = record {
  kills = λ t n b sig. regular_end t r (killed n) b.place b.regular;
  interrupts = λ a o h. h;
  enters = λ t signal address b comes. acts_change r t (handles signal address) (keeps_handles signal address) b;
  shows_handler = λ t signal address b comes. (acts_change r t (handles signal address) (keeps_handles signal address) b).regular;
  discards = λ t n b sig. b.regular;
  stops = λ t n b sig stops. let there = b.regular.placed r.pid b.place in regular_stop t r there.what n there.found there.living b.regular;
  takes = λ t n b. acts_change r t (take_out n) (keeps_take_out n) b;
  returns = λ t frame b is. (acts_change r t (returned frame) (keeps_seen (returned frame) (λ r. refl)) b).regular;
}

-- ---- calls

-- a call that changes its process alone
regular_answers : (s : State) (p : ℕ) (call : Call) (reply : Reply) → Keeps s.ticks reply.changes → IsRegular s → Meets (λ o. IsRegular o.state) IsRegular (finish_call s p call reply)
regular_answers s p call reply k i =
    regular_change p (λ r. finished ((0, reply.value) ∷ []) (reply.changes r)) s (keeps_then reply.changes (finished ((0, reply.value) ∷ [])) k (keeps_finished ((0, reply.value) ∷ []))) i

-- a call that gives a value and changes nothing else
regular_gives : (s : State) (p : ℕ) (call : Call) (z : ℤ) → IsRegular s → Meets (λ o. IsRegular o.state) IsRegular (finish_call s p call (plain z))
regular_gives s p call z i = regular_answers s p call (plain z) keeps_none i

-- the record of a process that has a place in a regular state
record IsCaller (s : State) (me : Process) : Type 0 where
  regular : IsRegular s
  found : lookup me.pid s.processes ≡ Some me
  place : is_in me.pid s.order ≡ true

-- it is no zombie
caller_lives : (s : State) (me : Process) → IsCaller s me → is_zombie me.life ≡ false
caller_lives s me c =
    let p = c.regular.placed me.pid c.place in
    let same : p.what ≡ me = let both = sym p.found ∙ c.found in cc in
    ap (λ (r : Process). is_zombie r.life) (sym same) ∙ p.living

-- a birth
regular_born : (s : State) (me : Process) (n : ℕ) → IsCaller s me → next_pid s ≡ Some n → IsRegular (born s me n)
unfolding child_of finished
regular_born s me n c e =
    regular_inserted (child_of (s.births + 1) me n) n (s.births + 1) s c.regular (new_number s n e) (caller_lives s me c) refl me c.found (caller_lives s me c) refl refl

-- a signal that is sent
regular_sent : (s : State) (me : Process) (target : Target) (signal : Option PendingSignal) → IsRegular s → IsRegular (record s { processes = sent me target signal s.processes })
unfolding sent sent_among
regular_sent s me target None i = i
regular_sent s me target (Some signal) i = regular_signalled signal (pids (permitted me (Some signal.sig) (targets me target s.processes))) s i

-- an alarm is asked for by few ticks
few_ticks : (z : ℤ) (n : ℕ) → ticks_in z ≡ Some n → n ≤ most_ticks
few_ticks (pos m) n e = grind (arith, nat_tests, e)
few_ticks (negsuc m) n e = absurd (cc)

-- who may acquire a terminal has none
none_yet : (s : State) (me : Process) (c : Console) → may_acquire s me c ≡ true → console_of me.session s.consoles ≡ None
none_yet s me c e = none (terminal s me) (and_parts _ _ (and_parts _ _ e).1).0
  where
    none : (o : Option Console) → not (is_some o) ≡ true → o ≡ None
    none None k = refl
    none (Some d) k = absurd (cc)

-- bytes that are moved
regular_bytes : (s : State) (p : ℕ) (call : Call) (bytes : List ℕ) → IsRegular s → Meets (λ o. IsRegular o.state) IsRegular (finish_moved s p call bytes)
regular_bytes s p call [] i = regular_gives s p call (pos 0) i
regular_bytes s p call (b ∷ bs) i = regular_change p (finished ((0, pos (length (b ∷ bs))) ∷ [])) s (keeps_finished _) i

regular_retries : (s : State) (me : Process) → IsCaller s me → Retries (λ o. IsRegular o.state) IsRegular s me
unfolding line_taken with_bytes
regular_retries s me c =
    let gives = λ (results : List (ℕ × ℤ)) (t : State). regular_change me.pid _ t (keeps_finished results) in
    record {
      refuses = λ call n fails few. regular_gives s me.pid call (negsuc n) c.regular;
      gives = λ call n is. regular_gives s me.pid call (pos n) c.regular;
      finds_nothing = λ call. gives (results_of_nothing call) s c.regular;
      tells_end = λ call target options child status e.
          let h = reported s.processes c.regular.rising me.pid me.group target options (found.End child status) child e refl in
          let gone = regular_removed child h.what s c.regular (not_first s c.regular me.pid child true (placed_least s c.regular me.pid (c.regular.placed me.pid c.place)) h) h.found h.dead in
          (gives (results_of call child status) s c.regular, gives (results_of call child status) (record s { processes = removed child s.processes }) gone);
      tells_change = λ call target options child status e.
          (gives (results_of call child status) s c.regular, gives (results_of call child status) (change s child news_told) (regular_change child news_told s keeps_news_told c.regular));
      reads = λ console span line rest has fits is.
          let left = change_console s me.session (line_taken span.count) in
          let bytes = take span.count line in
          regular_bytes _ me.pid Read bytes (regular_change me.pid (with_bytes span.address bytes) left (keeps_seen (with_bytes span.address bytes) (λ r. refl)) (regular_change_console me.session (line_taken span.count) s (λ c. refl) c.regular));
      begins_again = λ n is. regular_signalled_group n me.group s c.regular;
    }

regular_ways : (granted : Bool) (s : State) (me : Process) → IsCaller s me → Ways (λ o. IsRegular o.state) IsRegular granted s me
unfolding acquired with_foreground with_tostop give_credentials give_signals written marked_as finished
regular_ways granted s me c = record {
  retries = regular_retries s me c;
  wants_memory = λ call wants none. regular_change me.pid (finished ((0, refusal EAGAIN) ∷ [])) s (keeps_finished ((0, refusal EAGAIN) ∷ [])) c.regular;
  exits = regular_end s me (exited (argument me 1)) c.place c.regular;
  bears = λ n is. regular_gives (born s me n) me.pid Fork (pos n) (regular_born s me n c is);
  yields = regular_gives (go_last s me.pid) me.pid SchedYield (pos 0) (regular_last me.pid s c.regular c.place);
  sets_ids = λ call new is. regular_answers s me.pid call _ (keeps_seen (give_credentials new) (λ r. refl)) c.regular;
  sends = λ call target value n is permitted. regular_gives _ me.pid call (pos 0) (regular_sent s me target (message me.pid value n) c.regular);
  sets_action = λ n g is. regular_answers s me.pid Sigaction _ (keeps_seen (λ r. holding (action me.signals n) (give_signals g r)) (λ r. refl)) c.regular;
  sets_mask = λ what. regular_answers s me.pid Sigprocmask _ (keeps_seen (λ r. written 2 (word_of me.signals.mask) (give_signals (set_mask what (set_in (argument me 2)) me.signals) r)) (λ r. refl)) c.regular;
  tells_pending = regular_answers s me.pid Sigpending _ (keeps_seen (written 1 (word_of (pending_set me.signals))) (λ r. refl)) c.regular;
  returns = by_return _ (IsActing me) me (regular_deliveries me) s (record { regular = c.regular; place = c.place });
  sets_alarm = λ n is. regular_answers s me.pid Alarm _ (keeps_with_alarm (due_in s.ticks n) (due_ahead s.ticks n (few_ticks (argument me 1) n is))) c.regular;
  executes = λ n program is. regular_change me.pid (executed n program) s (keeps_executed n program) c.regular;
  moves = λ r group h is goes. let t = named_there me (argument me 1) s.processes r c.found is in regular_gives _ me.pid Setpgid (pos 0) (regular_move s c.regular me r t.0 group h t.1 goes);
  leads = λ alone. regular_gives _ me.pid Setsid (pos me.pid) (regular_session s c.regular me me.pid c.found alone);
  acquires = λ k console is may.
      let own = acquired me.session me.group console in
      regular_gives _ me.pid Setctty (pos 0) (regular_consoles s _ c.regular (consoles_acquired s.world.consoles s.consoles k own (none_yet s me console may) c.regular.consoles));
  sets_foreground = λ g is. regular_gives _ me.pid Tcsetpgrp (pos 0) (regular_change_console me.session (with_foreground g) s (λ c. refl) c.regular);
  sets_tostop = λ b. regular_gives _ me.pid Settostop (pos 0) (regular_change_console me.session (with_tostop b) s (λ c. refl) c.regular);
  writes = λ span fits. regular_bytes s me.pid Write (bytes_in span me.cpu.memory) c.regular;
  marks = λ mark. regular_change me.pid (marked_as mark) s (keeps_seen (marked_as mark) (λ r. refl)) c.regular;
}

-- ---- a turn

regular_act : (granted : Bool) (s : State) (r : Process) → IsCaller s r → IsRegular (act granted s r).state
unfolding enter out_of_call
regular_act granted s r c = by_act (λ o. IsRegular o.state) IsRegular (IsActing r) granted s r (record {
  here = record { regular = c.regular; place = c.place };
  deliveries = regular_deliveries r;
  calls = regular_ways granted s r c;
  enters_call = λ b. regular_lose r.pid (change s r.pid (enter b)) (regular_change r.pid (enter b) s (keeps_seen (enter b) (λ r. refl)) c.regular);
  begins_again = λ t h. h;
  leaves_call = λ t h. regular_change r.pid out_of_call t (keeps_seen out_of_call (λ r. refl)) h;
  waits = regular_lose r.pid s c.regular;
  runs = regular_change r.pid (set_cpu _) s (keeps_set_cpu _) c.regular;
  notes = λ z is. regular_change r.pid (set_cpu _) s (keeps_set_cpu _) c.regular;
})

-- ---- an event

-- what happens at an event
pub happens_regular : (granted : Bool) (s : State) (event : Event) → IsRegular s → s.halted ≡ false → IsRegular (happens granted s event).state
unfolding happens tick
happens_regular granted s Step i awake = by_step (λ o. IsRegular o.state) granted s i (λ p r first e.
    let named : p ≡ r.pid = sym (pid_looked p s.processes r e) in
    regular_act granted s r (record { regular = i; found = subst (λ n. lookup n s.processes ≡ Some r) named e; place = subst (λ n. is_in n s.order ≡ true) named (first_in p s.order first) }))
happens_regular granted s Tick i awake = elim (current s) as (λ c. current s ≡ c → IsRegular (rotate (pass_time s) c)) [
  | None ↦ λ e. regular_pass s i
  | Some p ↦ λ e. regular_last p (pass_time s) (regular_pass s i) (first_in p s.order e)
] refl
happens_regular granted s (Key console byte) i awake = regular_key s console byte i
happens_regular granted s (Hangup console) i awake = regular_hangup s console i

-- ---- to settle

-- two lists without duplicates and without a common ID are joined without duplicates
distinct_append : (xs ys : List ℕ) → IsDistinct xs → IsDistinct ys → ((q : ℕ) → is_in q ys ≡ true → is_in q xs ≡ false) → IsDistinct (xs ++ ys)
unfolding IsDistinct
distinct_append [] ys h k apart = k
distinct_append (x ∷ xs) ys h k apart = (
  in_append x xs ys ∙ or_from _ _ h.0 (false_from_ne_true _ (λ e. let no = sym (in_first x xs) ∙ apart x e in absurd (cc))),
  distinct_append xs ys h.1 k (λ q e. apart_rest q x xs (apart q e)),
)

-- to settle
regular_settled : (s : State) → IsRegular s → IsRegular (settle s)
unfolding settle give_places clear_foregrounds
regular_settled s i = record {
  rising = i.rising;
  bounded = i.bounded;
  first = i.first;
  placed = λ q e. elim (or_cases _ _ (sym (in_append q s.order (given_places s)) ∙ e)) [
    | inl there ↦ i.placed q there
    | inr new ↦ let w = all_wake s i.rising q new in wakes_placed (clear_foregrounds s) q w.what w.found w.acts
  ];
  distinct = distinct_append s.order (given_places s) i.distinct (distinct_given s i.rising) (λ q e. (all_wake s i.rising q e).out);
  childless = i.childless;
  alarms = i.alarms;
  grouped = i.grouped;
  consoles = (regular_cleared s i).consoles;
}

-- ---- steps and runs

-- an event, after a halt too
pub step_regular : (old new : State) (event : Event) (entries : List Entry) → IsStep old event entries new → IsRegular old → IsRegular new
step_regular old new event entries h i = by_event (λ o. IsRegular o.state) old new event entries h (λ t. i) (λ t. regular_settled _ (happens_regular h.granted old event i t))
