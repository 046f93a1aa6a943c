-- What an event shows has a form, and it keeps the kinds of a state.
use Rattle.std.proofs.Common.{rules, ◌≡◌, ℕ, ◌+◌, ◌≤◌, Bool, true, false, cond, ◌&&◌, refl, ap, sym, ◌∙◌, arith, subst, List, [], ◌∷◌, ◌++◌, filter, Option, Some, None, ◌==◌, ℤ, pos, inl, inr, ◌⊎◌, take, Ok, nat_le, negsuc, slice_get, ◌-◌, ◌<◌}
use Rattle.std.specs.Int.{cast_unsigned, w64, int_wrapping_div}
use Rattle.std.proofs.lemmas.Bool.{cases_Bool, eqb-false, cond_both, leb-true, and_parts}
use Rattle.posix.specs.declared.call.Call.{Call}
use Rattle.posix.specs.declared.call.Call.TheVariants.{Exit, Fork, SchedYield, Getpid, Getppid, Getuid, Geteuid, Getgid, Getegid, Kill, Sigqueue, Sigaction, Sigprocmask, Sigpending, Sigreturn, Alarm, Exec, Getpgid, Getsid, Setpgid, Setsid, Setctty, Tcgetpgrp, Tcsetpgrp, Settostop, Read, Write, Subreaper}
use Rattle.posix.specs.declared.instr.Trap.{Trap}
use Rattle.posix.specs.declared.instr.Trap.TheVariants as trap
use Rattle.posix.specs.declared.event.Event.{Event}
use Rattle.posix.specs.declared.event.Event.TheVariants.{Step, Tick, Key, Hangup}
use Rattle.posix.specs.declared.errno.Errno.TheVariants.{EAGAIN, EINTR}
use Rattle.posix.specs.declared.entry.Entry.{Entry}
use Rattle.posix.specs.declared.entry.Entry.TheVariants.{Noted, Called, Reported, Looked, NoMemory, Handled, Discarded, Returned, Stopped as StoppedLine, Ended}
use Rattle.posix.specs.declared.process.Action.{Action}
use Rattle.posix.specs.declared.process.Blocked.{Blocked}
use Rattle.posix.specs.declared.process.Blocked.TheVariants as blocked
use Rattle.posix.specs.declared.process.PendingSignal.{PendingSignal}
use Rattle.posix.specs.declared.process.Report.TheVariants as found
use Rattle.posix.specs.declared.process.Sending.{Sending}
use Rattle.posix.specs.declared.process.Sending.TheVariants as sends
use Rattle.posix.specs.declared.target.Target.{Target}
use Rattle.posix.specs.Common.{TTIN, TTOU, is_signal, is_stop_signal, is_realtime, has, word_of, set_in, exited, killed, stopped, continued, is_end_word, Process, Signals, Cpu, argument, zero_registers, zero_memory, first_process, default_actions, nothing_pending, IsRising, lookup, removed, pids, Program, State, change, go_last, next_pid, World, boot, Outcome, silent, refusal, no_memory, finished, written, may, action, has_sig, first_carried, carried_by, from_kernel, handles, is_interrupted, returned, set_action, set_mask, born, end_process, marked_as, asks_memory, call_of_wait, results_of, results_of_nothing, news_told, call_of, interruption, take_out, stop_process, is_target, sent, sent_by, sent_among, permitted, targets, sending, has_full_queue, is_queuer, queuers, queued_for, queuers_among, sending_granted, message, action_in, pending_set, give_credentials, give_signals, executed, in_group, in_session, ticks_left, due_in, with_alarm, act, enter, set_cpu, out_of_call, code_of, IsStep, next, happens, instructions, is_own_id, is_id, is_instruction, is_program, IsWorld, IsEvent, is_i64, Executed, execute, execute_fetched, exec_one, fetched, computed, register, set_register, move_on, put_result, load_from, store_at, address_of, is_zero, passes, jump, IsRegular, IsAhead, line, numbered, stopped_by, signalled_all, unused_console, Console, acquired, with_foreground, with_tostop, line_taken, span_in, bytes_in, terminal, change_console, finish_moved, with_bytes}
use Rattle.posix.specs.declared.waits.WaitCall.{WaitCall}
use Rattle.posix.specs.declared.waits.WaitCall.TheVariants as wait
use Rattle.std.specs.Prelude.{slice_set, ◌*◌, ◌%◌, bit_and, bit_or, bit_xor, int_div, int_rem, unsigned_abs, slice_index_or, unwrap_or}
use Rattle.std.specs.List.{AllByRecursion, list_all, list_any}
use Rattle.posix.proofs.TableLemmas.{rising_changed, rising_filter, none_found, pid_looked}
use Rattle.posix.proofs.WalkLemmas.{all_looked, any_filter, in_filter}
use Rattle.laws.proofs.ToldLines.{pid_child}
use Rattle.posix.specs.declared.ids.Ids.{Ids}
use Rattle.laws.specs.Kinds.{are_ids, is_carried, is_pending_kind, is_queued_kind, is_console, is_news_kind, is_life, is_byte, AreSignals, IsCpu, IsKind, AreKinds}
use Rattle.std.proofs.lemmas.Bool.Decides.{nat_tests}
use Rattle.posix.specs.declared.instr.Instr.{Instr}
use Rattle.posix.specs.declared.instr.Instr.TheVariants as instr
use Rattle.posix.specs.declared.instr.Operator.{Operator}
use Rattle.posix.specs.declared.instr.Operator.TheVariants.{Add, Sub, Mul, Div, Rem, And, Or, Xor}
use Rattle.posix.specs.declared.process.Carried.{Carried}
use Rattle.laws.specs.TraceLines.{is_number, is_result, is_entry, is_line}
use Rattle.posix.proofs.CountLemmas.{by_next}
use Rattle.posix.proofs.NextLemmas.{new_number}
use Rattle.laws.proofs.StatusLemmas.{killed_word, exited_word}
use Rattle.laws.proofs.NewsLemmas.{end_of, change_of, IsNewsOf}
use Rattle.posix.proofs.ReportLemmas.{reporting}
use Rattle.posix.proofs.WaitLemmas.{IfTold}
use Rattle.laws.proofs.QuietLemmas.{untold_pid}
use Rattle.laws.proofs.AgreeStays.{untold_handles}
use Rattle.laws.proofs.KindLemmas.{and_both, all_get, all_set, all_found, all_take, all_same, small_i64, id_i64, cast_i64, rem_i64}
use Rattle.laws.proofs.KindChanges.{kind_finished, KeepsKind, HasRoom, kind_argument, kind_stopped, kind_take_out, kind_written, kind_set_cpu, kind_child, kind_action, kind_handles, kind_frame, kind_returned, kind_enter, kind_out, kind_told, kind_alarm, kind_grouped, kind_led, kind_credentials, kind_with, kind_holding, kind_set_action, kind_mask, kind_ids_set, kind_executed}
use Rattle.laws.proofs.KindStates.{AllKind, IsThereWithRoom, kinds_changed, kinds_removed, kinds_inserted, kinds_told_of_change, kinds_group, kinds_signalled, kinds_queued, kinds_as, kinds_change, kinds_end, end_small, kind_terminal, kind_consoles, kind_foreground, kind_taken, kinds_key, kinds_hangup, kinds_tick, kinds_settled}
use Rattle.posix.specs.declared.span.Span.{Span}
use Rattle.posix.proofs.AttemptLemmas.{Retries, Ways, Gives, Sends, may_fail, named_there}
use Rattle.posix.proofs.DeliveryLemmas.{Comes, Deliveries, by_return, by_act, by_step}
use Rattle.laws.proofs.FormLemmas.{IsFormed, FormsIf, IsSaying, saying_kind, number_there, saying_number, group_there, form_called, kinds_finished, form_gives, form_answers, with_consoles, group_kind, span_few, form_moved, kind_bytes, take_at_most, bytes_kind, bytes_few}

-- a signal that stops is small
stop_few : (s : ℕ) → is_stop_signal s ≡ true → s ≤ 22
stop_few s h = leb-true s 22 (and_parts (nat_le 19 s) (nat_le s 22) h).1

-- news of a stop or of a continue have a word
news_few : (r : Process) (w : ℕ) → IsKind r → IsNewsOf r w → w ≤ 65535
news_few r w k (inl x) = let few = stop_few x.0 (subst (λ n. is_news_kind n ≡ true) x.1 k.news) in let is : w ≡ stopped x.0 = x.2 in omega (arith, few, is)
news_few r w k (inr x) = let is : w ≡ continued = x.1 in omega (arith, is)

-- the first process
first_kind : IsKind first_process
unfolding default_actions nothing_pending zero_registers zero_memory
first_kind = search (rules, all_same)

-- ---- ends and deliveries

-- a state of its kinds, and a record of a process that was there
record IsOld (t : State) (r : Process) : Type 0 where
  up : IsRising t.processes
  kinds : AreKinds t
  kind : IsKind r
  number : is_number r.pid ≡ true

-- one entry
one_formed : (e : Entry) → is_entry e ≡ true → list_all is_entry (e ∷ []) ≡ true
one_formed e h = and_both (is_entry e) true h refl

form_end : (t : State) (r : Process) (w : ℕ) → IsOld t r → is_end_word w ≡ true → IsFormed (end_process t r w)
unfolding end_process
form_end t r w h word = record {
  entries = cond_both (r.pid == 1) _ _ (λ (o : Outcome). list_all is_entry o.entries ≡ true)
      (λ e. and_both (is_entry (Ended r.pid w)) true (and_both (is_number r.pid) (is_end_word w) h.number word) refl)
      (λ e. one_formed (Ended r.pid w) (and_both (is_number r.pid) (is_end_word w) h.number word));
  kinds = kinds_end t r w h.up h.kind.pid word h.kinds;
}

form_interrupted : (p : ℕ) (b : Option Blocked) (a : Action) (es : List Entry) → is_number p ≡ true → list_all is_entry es ≡ true → list_all is_entry (interruption p b a ++ es) ≡ true
form_interrupted p None a es n h = h
form_interrupted p (Some b) a es n h = cond_both (is_interrupted (Some b) a) (Called p (call_of b) (refusal EINTR) ∷ []) [] (λ (xs : List Entry). list_all is_entry (xs ++ es) ≡ true)
    (λ t. and_both (is_entry (Called p (call_of b) (refusal EINTR))) (list_all is_entry es) (and_both (is_number p && true) (is_result (call_of b) (refusal EINTR)) (and_both (is_number p) true n refl) (of b)) h) (λ t. h)
  where
    of : (b : Blocked) → is_result (call_of b) (refusal EINTR) ≡ true
    of (blocked.Wait wait.Waitpid) = refl
    of b = refl

signal_i64 : (s : ℕ) → is_signal s ≡ true → is_i64 (pos s) ≡ true
signal_i64 s h = let l = end_small s (killed_word s h) in small_i64 s (omega (arith, l))

form_stop : (t : State) (r : Process) (n : ℕ) → IsOld t r → is_stop_signal n ≡ true → IsFormed (stop_process t r n)
unfolding stop_process stopped_by
form_stop t r n h stops = record {
  entries = one_formed (StoppedLine r.pid n) (and_both (is_number r.pid) (is_stop_signal n) h.number stops);
  kinds = kinds_as t _ refl refl (kinds_told_of_change (stopped n) r _ (let few = stop_few n stops in omega (arith, few)) h.kind (kinds_changed r.pid (stopped_by n) (λ r. refl) (kind_stopped n stops) t.processes h.kinds.records)) h.kinds;
}

-- what the first queued signal of a number came with
kind_first_carried : (n : ℕ) (queue : List PendingSignal) → list_all is_queued_kind queue ≡ true → is_pending_kind (first_carried n queue) ≡ true
unfolding first_carried
kind_first_carried n [] h = refl
kind_first_carried n (m ∷ ms) h =
    let p = and_parts (is_queued_kind m) (list_all is_queued_kind ms) h in
    cond_both (has_sig n m) (Some m.carried) (first_carried n ms) (λ (o : Option Carried). is_pending_kind o ≡ true) (λ t. (and_parts (is_realtime m.sig) (is_carried m.carried) p.0).1) (λ t. kind_first_carried n ms p.1)

-- what a pending signal came with
kind_carried : (n : ℕ) (g : Signals) → AreSignals g → is_carried (carried_by n g) ≡ true
kind_carried n g h =
    of (cond (is_realtime n) (first_carried n g.queue) (slice_index_or g.standard (n - 1) None))
    (cond_both (is_realtime n) (first_carried n g.queue) (slice_index_or g.standard (n - 1) None) (λ (o : Option Carried). is_pending_kind o ≡ true)
    (λ t. kind_first_carried n g.queue h.queue) (λ t. all_get is_pending_kind g.standard (n - 1) None h.pending refl))
  where
    of : (o : Option Carried) → is_pending_kind o ≡ true → is_carried (unwrap_or o from_kernel) ≡ true
    of None k = refl
    of (Some c) k = k

-- what a signal that is delivered comes with
kind_comes : (r : Process) (signal : PendingSignal) → IsKind r → Comes r signal → is_carried signal.carried ≡ true
kind_comes r signal k comes = elim comes.carried [
  | inl kernel ↦ subst (λ c. is_carried c ≡ true) (sym kernel) refl
  | inr pending ↦ subst (λ c. is_carried c ≡ true) (sym pending.1) (kind_carried pending.0 r.signals k.signals)
]

old_change : (t : State) (r : Process) (f : Process → Process) → ((q : Process) → (f q).pid ≡ q.pid) → KeepsKind f → IsOld t r → IsOld (change t r.pid f) r
old_change t r f same keeps h = record { up = rising_changed r.pid f same t.processes h.up; kinds = kinds_change t r.pid f same keeps h.kinds; kind = h.kind; number = h.number }

old_handles : (t : State) (r : Process) (signal : PendingSignal) (address : ℤ) → IsOld t r → Comes r signal → IsOld (change t r.pid (handles signal address)) r
old_handles t r signal address h comes = old_change t r (handles signal address) (untold_pid (handles signal address) (untold_handles signal address)) (kind_handles signal address (signal_i64 signal.sig comes.number) (kind_comes r signal h.kind comes)) h

form_handler : (r : Process) (signal : PendingSignal) → is_number r.pid ≡ true → is_signal signal.sig ≡ true → is_carried signal.carried ≡ true → is_entry (Handled r.pid signal.sig signal.carried.value signal.carried.sender) ≡ true
form_handler r signal number sig carried = grind (arith, cases_Bool, number, sig, carried)

form_deliveries : (r : Process) → is_number r.pid ≡ true → Deliveries IsFormed (λ t. IsOld t r) r
unfolding take_out returned
form_deliveries r number = record {
  kills = λ t n h sig. form_end t r (killed n) h (killed_word n sig);
  interrupts = λ a o formed. record { entries = form_interrupted r.pid r.blocked a o.entries number formed.entries; kinds = formed.kinds };
  enters = λ t signal address h comes. old_handles t r signal address h comes;
  shows_handler = λ t signal address h comes. record {
    entries = one_formed (Handled r.pid signal.sig signal.carried.value signal.carried.sender) (form_handler r signal number comes.number (kind_comes r signal h.kind comes));
    kinds = (old_handles t r signal address h comes).kinds;
  };
  discards = λ t n h sig. record { entries = one_formed (Discarded r.pid n) (and_both (is_number r.pid) (is_signal n) number sig); kinds = h.kinds };
  stops = λ t n h sig stops. form_stop t r n h stops;
  takes = λ t n h. old_change t r (take_out n) (λ q. refl) (kind_take_out n) h;
  returns = λ t frame h is. record {
    entries = one_formed (Returned r.pid) number;
    kinds = kinds_change t r.pid (returned frame) (λ q. refl) (kind_returned frame (kind_frame r.signals frame h.kind.signals is)) h.kinds;
  };
}

-- ---- calls

old_saying : (s : State) (me : Process) → IsSaying s me → IsOld s me
old_saying s me c = record { up = c.regular.rising; kinds = c.kinds; kind = saying_kind s me c; number = saying_number s me c }

-- there is no memory for the call
form_no_memory : (s : State) (me : Process) (call : Call) → IsSaying s me → asks_memory call ≡ true → FormsIf (no_memory s me.pid call)
form_no_memory s me call c asks = record {
  entries = one_formed (NoMemory me.pid call) (and_both (is_number me.pid) (asks_memory call) (saying_number s me c) asks);
  kinds = kinds_finished s me.pid ((0, refusal EAGAIN) ∷ []) refl c.kinds;
}

born_id : (s : State) (me : Process) (n : ℕ) → IsSaying s me → next_pid s ≡ Some n → is_id n ≡ true
born_id s me n c is = let new = new_number s n is in let few : n ≤ 2147483647 = omega (arith, new.greatest, c.kinds.world.pidmax) in grind (arith, nat_tests, few)

kinds_born : (s : State) (me : Process) (n : ℕ) → IsSaying s me → next_pid s ≡ Some n → AreKinds (born s me n)
kinds_born s me n c is =
    let named = pid_child (s.births + 1) me n in
    let child = kind_child (s.births + 1) me n (born_id s me n c is) (saying_kind s me c) in
    kinds_as s (born s me n) refl refl (kinds_inserted _ s.processes (ap (λ m. lookup m s.processes) named ∙ (new_number s n is).fresh) child c.kinds.records) c.kinds

-- what a report gives
results_i64 : (call : WaitCall) (child w : ℕ) → is_id child ≡ true → w ≤ 65535 → list_all (λ (r : ℕ × ℤ). is_i64 r.1) (results_of call child w) ≡ true
results_i64 wait.Waitpid child w id few = and_both (is_i64 (pos child)) _ (id_i64 child id) (and_both (is_i64 (pos w)) true (small_i64 w (omega (arith, few))) refl)
results_i64 wait.Waitid child w id few = and_both (is_i64 (pos child)) _ (id_i64 child id) (and_both (is_i64 (pos w)) true (small_i64 w (omega (arith, few))) refl)

-- a child that is looked at, or whose report is collected
form_told : (s collected : State) (me : Process) (call : WaitCall) (child w : ℕ) → IsSaying s me → AreKinds collected → is_number child ≡ true → w ≤ 65535 → IfTold FormsIf s collected me.pid call child w
form_told s collected me call child w c k n few =
    let small : nat_le w 65535 ≡ true = grind (arith, nat_tests, few) in
    let id : is_id child ≡ true = (and_parts (nat_le 1 child) (nat_le child 2147483647) n).1 in
    let formed = and_both _ (nat_le w 65535) (and_both (is_number me.pid) (is_number child) (saying_number s me c) n) small in
    let given = results_i64 call child w id few in (
      record { entries = one_formed (Looked me.pid child w) formed; kinds = kinds_finished s me.pid (results_of call child w) given c.kinds },
      record { entries = one_formed (Reported me.pid call child w) formed; kinds = kinds_finished collected me.pid (results_of call child w) given k },
    )

-- if a send is permitted, no process for which the signal would be queued has a full queue
queued_room : (granted : Bool) (qs : List Process) (other : Sending) → queued_for granted qs other ≡ sends.Permitted → list_any has_full_queue qs ≡ false
queued_room granted [] other e = refl
queued_room granted (q ∷ qs) other e = grind (arith, cases_Bool, e)

permitted_room : (granted : Bool) (s : State) (me : Process) (target : Target) (n : ℕ) → sending_granted granted me target (Some n) s.processes ≡ sends.Permitted
    → (p : ℕ) (r : Process) → lookup p (permitted me (Some n) (targets me target s.processes)) ≡ Some r → HasRoom n r
unfolding sending_granted queuers_among queuers
permitted_room granted s me target n e =
    let rs = permitted me (Some n) (targets me target s.processes) in
    none_found (λ r. is_queuer n r && has_full_queue r) rs (sym (any_filter (is_queuer n) has_full_queue rs) ∙ queued_room granted (filter (is_queuer n) rs) (sending me target (Some n) s.processes) e)

-- the processes that a permitted send selects exist, and have room
permitted_there : (granted : Bool) (s : State) (me : Process) (target : Target) (n : ℕ) → IsRising s.processes → sending_granted granted me target (Some n) s.processes ≡ sends.Permitted
    → AllByRecursion (IsThereWithRoom s.processes n) (permitted me (Some n) (targets me target s.processes))
unfolding permitted targets
permitted_there granted s me target n up e =
    let meant = filter (is_target me target) s.processes in
    let meant_up = rising_filter (is_target me target) s.processes up in
    let rs = filter (may me (Some n)) meant in
    all_looked (IsThereWithRoom s.processes n) rs (rising_filter (may me (Some n)) meant meant_up) (λ p q found.
    let a = in_filter (may me (Some n)) meant meant_up p q found in
    let b = in_filter (is_target me target) s.processes up p q a.found in
    (ap (λ m. lookup m s.processes) (pid_looked p s.processes q b.found) ∙ b.found, permitted_room granted s me target n e p q found))

-- they are in ascending order
permitted_rising : (me : Process) (n : ℕ) (target : Target) (rs : List Process) → IsRising rs → IsRising (permitted me (Some n) (targets me target rs))
unfolding permitted targets
permitted_rising me n target rs up = rising_filter (may me (Some n)) _ (rising_filter (is_target me target) rs up)

-- a signal that is sent
kinds_sent : (granted : Bool) (s : State) (me : Process) (target : Target) (value : ℤ) (n : Option ℕ) → is_i64 value ≡ true → IsSaying s me → sending_granted granted me target n s.processes ≡ sends.Permitted
    → AreKinds (record s { processes = sent me target (message me.pid value n) s.processes })
unfolding sent sent_among
kinds_sent granted s me target value None z c e = c.kinds
kinds_sent granted s me target value (Some n) z c e = kinds_as s _ refl refl (by (is_realtime n) refl) c.kinds
  where
    carried : is_carried (sent_by me.pid value n).carried ≡ true
    carried = and_both (is_i64 value) (is_id me.pid) z (saying_kind s me c).pid

    by : (b : Bool) → is_realtime n ≡ b → AllKind (signalled_all (sent_by me.pid value n) (pids (permitted me (Some n) (targets me target s.processes))) s.processes)
    by true real = kinds_queued (sent_by me.pid value n) carried real (permitted me (Some n) (targets me target s.processes)) s.processes
        (permitted_rising me n target s.processes c.regular.rising) (permitted_there granted s me target n c.regular.rising e) c.kinds.records
    by false standard = kinds_signalled (sent_by me.pid value n) carried standard (pids (permitted me (Some n) (targets me target s.processes))) s.processes c.kinds.records

-- what a call gives that changes nothing else
record IsGiven (call : Call) (n : ℕ) : Type 0 where
  word : is_i64 (pos n) ≡ true
  result : is_result call (pos n) ≡ true

session_there : (s : State) (p : ℕ) (r : Process) → IsRegular s → AreKinds s → lookup p s.processes ≡ Some r → is_id r.session ≡ true
session_there s p r i k e = let b = i.bounded p r e in let l : r.session ≤ 2147483647 = omega (arith, b.session, k.world.pidmax) in grind (arith, nat_tests, l)

real_id : (i : Ids ℕ) → are_ids i ≡ true → is_id i.real ≡ true
real_id i h = (and_parts (is_id i.real) (is_id i.effective && is_id i.saved) h).0

effective_id : (i : Ids ℕ) → are_ids i ≡ true → is_id i.effective ≡ true
effective_id i h = (and_parts (is_id i.effective) (is_id i.saved) (and_parts (is_id i.real) (is_id i.effective && is_id i.saved) h).1).0

-- a mark
kind_marked : (mark : Bool) → KeepsKind (marked_as mark)
unfolding marked_as
kind_marked mark r h = kind_finished ((0, pos 0) ∷ []) refl (record r { is_subreaper = mark })
    (record { pid = h.pid; parent = h.parent; credentials = h.credentials; signals = h.signals; life = h.life; news = h.news; cpu = h.cpu })

given_id : (call : Call) (m n : ℕ) → n ≡ m → is_id m ≡ true → ((k : ℕ) → is_result call (pos k) ≡ true) → IsGiven call n
given_id call m n same id result = record { word = id_i64 n (subst (λ k. is_id k ≡ true) (sym same) id); result = result n }

form_given : (s : State) (me : Process) → IsSaying s me → (call : Call) (n : ℕ) → Gives s me call n → IsGiven call n
form_given s me c Getpid n is = given_id Getpid me.pid n is (saying_kind s me c).pid (λ k. refl)
form_given s me c Getppid n is = given_id Getppid me.parent n is (saying_kind s me c).parent (λ k. refl)
form_given s me c Getuid n is = given_id Getuid me.credentials.user.real n is (real_id me.credentials.user (saying_kind s me c).credentials.user) (λ k. refl)
form_given s me c Geteuid n is = given_id Geteuid me.credentials.user.effective n is (effective_id me.credentials.user (saying_kind s me c).credentials.user) (λ k. refl)
form_given s me c Getgid n is = given_id Getgid me.credentials.group.real n is (real_id me.credentials.group (saying_kind s me c).credentials.group) (λ k. refl)
form_given s me c Getegid n is = given_id Getegid me.credentials.group.effective n is (effective_id me.credentials.group (saying_kind s me c).credentials.group) (λ k. refl)
form_given s me c Getpgid n (r, names, is) = let t = named_there me (argument me 1) s.processes r c.found names in given_id Getpgid r.group n is (group_there s t.0 r c.regular c.kinds t.1) (λ k. refl)
form_given s me c Getsid n (r, names, is) = let t = named_there me (argument me 1) s.processes r c.found names in given_id Getsid r.session n is (session_there s t.0 r c.regular c.kinds t.1) (λ k. refl)
form_given s me c Tcgetpgrp n (console, has, is) =
    let own = leb-true console.foreground 2147483647 (and_parts (is_id console.foreground) _ (kind_terminal s me console c.kinds has)).0 in
    let most = c.kinds.world.pidmax in
    record {
      word = subst (λ k. is_i64 (pos k) ≡ true) (sym is) (cond_both (console.foreground == 0) (s.world.pidmax + 1) console.foreground (λ k. is_i64 (pos k) ≡ true) (λ t. small_i64 (s.world.pidmax + 1) (omega (arith, most))) (λ t. small_i64 console.foreground (omega (arith, own))));
      result = refl;
    }
form_given s me c Read n is = record { word = rw is refl; result = rw is refl }
form_given s me c call n is = absurd (is)

-- a refusal is a result
negative_result : (call : Call) (n : ℕ) → may_fail call ≡ true → is_result call (negsuc n) ≡ true
negative_result Exit n fails = absurd (cc)
negative_result Sigreturn n fails = absurd (cc)
negative_result Subreaper n fails = absurd (cc)
negative_result call n fails = refl

form_retries : (s : State) (me : Process) → IsSaying s me → Retries IsFormed AreKinds s me
unfolding news_told with_bytes
form_retries s me c = record {
  refuses = λ call n fails few. form_gives s s me call (negsuc n) c c.kinds (grind (arith, nat_tests, few)) (negative_result call n fails);
  gives = λ call n is. let g = form_given s me c call n is in form_gives s s me call (pos n) c c.kinds g.word g.result;
  finds_nothing = λ call. record { entries = form_called me.pid (call_of_wait call) (pos 0) (saying_number s me c) refl (zero call); kinds = kinds_finished s me.pid (results_of_nothing call) (zeros call) c.kinds };
  tells_end = λ call target options child status e.
      let h = reporting s.processes c.regular.rising me.pid me.group target options (found.End child status) child e refl in
      let word : is_end_word status ≡ true = sym (ap is_life (end_of options h.what child status h.says)) ∙ (c.kinds.records child h.what h.found).life in
      let small = end_small status word in
      form_told s (record s { processes = removed child s.processes }) me call child status c (kinds_as s _ refl refl (kinds_removed child s.processes c.kinds.records) c.kinds) (number child h.what h.found) (omega (arith, small));
  tells_change = λ call target options child status e.
      let h = reporting s.processes c.regular.rising me.pid me.group target options (found.Change child status) child e refl in
      form_told s (change s child news_told) me call child status c (kinds_change s child news_told (λ q. refl) kind_told c.kinds) (number child h.what h.found)
      (news_few h.what status (c.kinds.records child h.what h.found) (change_of options h.what child status h.says).1);
  reads = reads;
  begins_again = λ n is. kinds_as s _ refl refl (kinds_group n me.group s.processes (standard n is) c.kinds.records) c.kinds;
}
  where
    zero : (call : WaitCall) → is_result (call_of_wait call) (pos 0) ≡ true
    zero wait.Waitpid = refl
    zero wait.Waitid = refl

    zeros : (call : WaitCall) → list_all (λ (r : ℕ × ℤ). is_i64 r.1) (results_of_nothing call) ≡ true
    zeros wait.Waitpid = refl
    zeros wait.Waitid = refl

    number : (child : ℕ) (r : Process) → lookup child s.processes ≡ Some r → is_number child ≡ true
    number child r found = subst (λ n. is_number n ≡ true) (pid_looked child s.processes r found) (number_there s child r c.regular c.kinds found)

    standard : (n : ℕ) → (n ≡ TTIN) ⊎ (n ≡ TTOU) → is_realtime n ≡ false
    standard n (inl is) = rw is refl
    standard n (inr is) = rw is refl

    reads : (console : Console) (span : Span) (line : List ℕ) (rest : List (List ℕ)) → terminal s me ≡ Some console → span_in (argument me 1) (argument me 2) ≡ Ok span → console.lines ≡ line ∷ rest
        → FormsIf (finish_moved (change (change_console s me.session (line_taken span.count)) me.pid (with_bytes span.address (take span.count line))) me.pid Read (take span.count line))
    reads console span line rest has fits is =
        let kind = and_parts (is_id console.foreground) (list_all (list_all is_byte) console.lines && list_all is_byte console.edited) (kind_terminal s me console c.kinds has) in
        let lines = subst (λ ls. list_all (list_all is_byte) ls ≡ true) is (and_parts (list_all (list_all is_byte) console.lines) (list_all is_byte console.edited) kind.1).0 in
        let bytes = take span.count line in
        let all = all_take is_byte span.count line (and_parts (list_all is_byte line) (list_all (list_all is_byte) rest) lines).0 in
        let left = change_console s me.session (line_taken span.count) in
        let kinds = with_consoles s _ (kind_consoles me.session (line_taken span.count) (λ d k. kind_taken span.count d k) s.consoles c.kinds.consoles) c.kinds in
        let few = span_few (argument me 1) (argument me 2) span fits in
        let most = take_at_most span.count line in
        form_moved s (change left me.pid (with_bytes span.address bytes)) me Read bytes c (kinds_change left me.pid (with_bytes span.address bytes) (λ q. refl) (kind_bytes span.address bytes all) kinds) refl refl (omega (arith, few, most)) all

form_ways : (granted : Bool) (s : State) (me : Process) → IsSaying s me → Ways IsFormed AreKinds granted s me
unfolding acquired with_tostop give_credentials give_signals written with_alarm executed marked_as finished in_group in_session
form_ways granted s me c =
    let kind = saying_kind s me c in
    record {
      retries = form_retries s me c;
      wants_memory = λ call wants none. form_no_memory s me call c wants;
      exits = form_end s me (exited (argument me 1)) (old_saying s me c) (exited_word (argument me 1));
      bears = λ n is. let id = born_id s me n c is in form_gives s (born s me n) me Fork (pos n) c (kinds_born s me n c is) (id_i64 n id) id;
      yields = form_gives s (go_last s me.pid) me SchedYield (pos 0) c (kinds_as s (go_last s me.pid) refl refl c.kinds.records c.kinds) refl refl;
      sets_ids = λ call new is. let k = kind_ids_set me call new kind.credentials is in form_answers s me call _ c (kind_credentials new k.0) (λ r. refl) refl k.1;
      sends = λ call target value n is permitted. let k = sends_value call value is in form_gives s _ me call (pos 0) c (kinds_sent granted s me target value n k.0 c permitted) refl k.1;
      sets_action = λ n g is. form_answers s me Sigaction _ c (kind_holding (action me.signals n) g (kind_action me.signals n kind.signals) (signals_set n g is)) (λ r. refl) refl refl;
      sets_mask = λ what.
          let g = set_mask what (set_in (argument me 2)) me.signals in
          form_answers s me Sigprocmask _ c
          (λ r h. kind_written 2 (word_of me.signals.mask) (cast_i64 me.signals.mask) _ (kind_with r g (kind_mask what (set_in (argument me 2)) me.signals kind.signals) h)) (λ r. refl) refl refl;
      tells_pending = form_answers s me Sigpending _ c (kind_written 1 _ (cast_i64 (pending_set me.signals))) (λ r. refl) refl refl;
      returns = by_return IsFormed (λ t. IsOld t me) me (form_deliveries me (saying_number s me c)) s (old_saying s me c);
      sets_alarm = λ n is. form_answers s me Alarm _ c (kind_alarm (due_in s.ticks n)) (λ r. refl) (left me.alarm (c.regular.alarms me.pid me c.found)) refl;
      executes = λ n program is. record {
        entries = form_called me.pid Exec (pos 0) (saying_number s me c) refl refl;
        kinds = kinds_change s me.pid (executed n program) (λ q. refl) (kind_executed n program (all_found is_program s.world.programs n program c.kinds.world.programs is)) c.kinds;
      };
      moves = λ r group h is goes. form_gives s _ me Setpgid (pos 0) c (kinds_change s r.pid (in_group h) (λ q. refl) (kind_grouped h) c.kinds) refl refl;
      leads = λ alone. form_gives s _ me Setsid (pos me.pid) c (kinds_change s me.pid in_session (λ r. refl) kind_led c.kinds) (id_i64 me.pid kind.pid) refl;
      acquires = λ k console is may.
          let old = all_found is_console s.consoles k console c.kinds.consoles is in
          let own = acquired me.session me.group console in
          let new : is_console own ≡ true = and_both (is_id me.group) _ (group_there s me.pid me c.regular c.kinds c.found) (and_parts (is_id console.foreground) _ old).1 in
          form_gives s _ me Setctty (pos 0) c (with_consoles s (slice_set s.consoles k own) (all_set is_console s.consoles k own c.kinds.consoles new) c.kinds) refl refl;
      sets_foreground = λ g is.
          form_gives s _ me Tcsetpgrp (pos 0) c (with_consoles s _ (kind_consoles me.session (with_foreground g) (λ d k. kind_foreground g d (group_kind s me.session g c.regular c.kinds is) k) s.consoles c.kinds.consoles) c.kinds) refl refl;
      sets_tostop = λ b. form_gives s _ me Settostop (pos 0) c (with_consoles s _ (kind_consoles me.session (with_tostop b) (λ d k. k) s.consoles c.kinds.consoles) c.kinds) refl refl;
      writes = λ span fits.
          let few = span_few (argument me 1) (argument me 2) span fits in
          let count = bytes_few span me.cpu.memory in
          form_moved s s me Write (bytes_in span me.cpu.memory) c c.kinds refl refl (omega (arith, few, count)) (bytes_kind span me.cpu.memory);
      marks = λ mark. record { entries = and_both (is_number me.pid) true (saying_number s me c) refl; kinds = kinds_change s me.pid (marked_as mark) (λ q. refl) (kind_marked mark) c.kinds };
    }
  where
    sends_value : (call : Call) (value : ℤ) → Sends me call value → (is_i64 value ≡ true) × (is_result call (pos 0) ≡ true)
    sends_value Kill value is = (rw is refl, refl)
    sends_value Sigqueue value is = (subst (λ z. is_i64 z ≡ true) (sym is) (kind_argument me 3 (saying_kind s me c)), refl)
    sends_value call value is = absurd (is)

    signals_set : (n : ℕ) (g : Signals) → (g ≡ me.signals) ⊎ (set_action n (action_in me) me.signals ≡ Ok g) → AreSignals g
    signals_set n g (inl same) = subst AreSignals (sym same) (saying_kind s me c).signals
    signals_set n g (inr set) = kind_set_action n me me.signals g (saying_kind s me c) (saying_kind s me c).signals set

    left : (o : Option ℕ) → IsAhead s.ticks o → is_i64 (pos (ticks_left s.ticks o)) ≡ true
    left None h = refl
    left (Some due) h = small_i64 (due - s.ticks) (omega (arith, h.1))

-- ---- instructions

-- what a note shows
abbrev IsNote : Trap → Type 0
IsNote (trap.Note z) = is_i64 z ≡ true
IsNote _ = Unit {0}

record IsRun (x : Executed) : Type 0 where
  cpu : IsCpu x.cpu
  note : IsNote x.trap

register_kind : (c : Cpu) (i : ℕ) → IsCpu c → is_i64 (register c i) ≡ true
register_kind c i h = all_get is_i64 c.registers i (pos 0) h.registers refl

set_kind : (c : Cpu) (i : ℕ) (z : ℤ) → is_i64 z ≡ true → IsCpu c → IsCpu (move_on (set_register c i z))
set_kind c i z k h = record { registers = all_set is_i64 c.registers i z h.registers k; memory = h.memory }

-- results are i64
abbrev ComputedIf : Option ℤ → Type 0
ComputedIf None = Unit {0}
ComputedIf (Some z) = is_i64 z ≡ true

nonzero : (y : ℤ) → is_zero y ≡ false → 0 < unsigned_abs y
nonzero (pos n) e = let ne = eqb-false n 0 e in omega (arith, ne)
nonzero (negsuc n) e = omega arith

computed_kind : (o : Operator) (x y : ℤ) → is_i64 y ≡ true → ComputedIf (computed o x y)
computed_kind Add x y h = cast_i64 ((cast_unsigned w64 x + cast_unsigned w64 y) % 18446744073709551616)
computed_kind Sub x y h = cast_i64 ((cast_unsigned w64 x + (18446744073709551616 - cast_unsigned w64 y)) % 18446744073709551616)
computed_kind Mul x y h = cast_i64 ((cast_unsigned w64 x * cast_unsigned w64 y) % 18446744073709551616)
computed_kind Div x y h = elim (is_zero y) as (λ b. ComputedIf (cond b None (Some (int_wrapping_div w64 x y)))) [ true ↦ tt | false ↦ cast_i64 (cast_unsigned w64 (int_div x y)) ]
computed_kind Rem x y h = elim (is_zero y) as (λ b. is_zero y ≡ b → ComputedIf (cond b None (Some (int_rem x y)))) [ true ↦ λ e. tt | false ↦ λ e. rem_i64 x y (nonzero y e) h ] refl
computed_kind And x y h = cast_i64 (bit_and (cast_unsigned w64 x) (cast_unsigned w64 y))
computed_kind Or x y h = cast_i64 (bit_or (cast_unsigned w64 x) (cast_unsigned w64 y))
computed_kind Xor x y h = cast_i64 (bit_xor (cast_unsigned w64 x) (cast_unsigned w64 y))

put_kind : (c : Cpu) (r : ℕ) (o : Option ℤ) → ComputedIf o → IsCpu c → IsRun (put_result c r o)
put_kind c r None k h = record { cpu = h; note = tt }
put_kind c r (Some z) k h = record { cpu = set_kind c r z k h; note = tt }

load_kind : (c : Cpu) (r : ℕ) (o : Option ℕ) → IsCpu c → IsRun (load_from c r o)
load_kind c r None h = record { cpu = h; note = tt }
load_kind c r (Some a) h = record { cpu = set_kind c r _ (all_get is_i64 c.memory a (pos 0) h.memory refl) h; note = tt }

store_kind : (c : Cpu) (z : ℤ) (o : Option ℕ) → is_i64 z ≡ true → IsCpu c → IsRun (store_at c z o)
store_kind c z None k h = record { cpu = h; note = tt }
store_kind c z (Some a) k h = record { cpu = record { registers = h.registers; memory = all_set is_i64 c.memory a z h.memory k }; note = tt }

execute_kind : (c : Cpu) (i : Instr) → is_instruction i ≡ true → IsCpu c → IsRun (execute c i)
execute_kind c (instr.Set a z) k h = record { cpu = set_kind c a z k h; note = tt }
execute_kind c (instr.Move a b) k h = record { cpu = set_kind c a _ (register_kind c b h) h; note = tt }
execute_kind c (instr.Compute o a b) k h = put_kind c a _ (computed_kind o (register c a) (register c b) (register_kind c b h)) h
execute_kind c (instr.Load a b) k h = load_kind c a (address_of (register c b)) h
execute_kind c (instr.Store a b) k h = store_kind c (register c a) (address_of (register c b)) (register_kind c a h) h
execute_kind c (instr.Jump a) k h = record { cpu = record { registers = h.registers; memory = h.memory }; note = tt }
execute_kind c (instr.JumpIf condition a address) k h =
    record { cpu = cond_both (passes condition (register c a)) (jump c address) (move_on c) IsCpu (λ t. record { registers = h.registers; memory = h.memory }) (λ t. record { registers = h.registers; memory = h.memory }); note = tt }
execute_kind c (instr.Note a) k h = record { cpu = record { registers = h.registers; memory = h.memory }; note = register_kind c a h }
execute_kind c (instr.Sys call) k h = record { cpu = h; note = tt }

fetched_kind : (program : List Instr) (c : Cpu) (z : ℤ) (o : Option Instr) → fetched program z ≡ o → list_all is_instruction program ≡ true → IsCpu c → IsRun (execute_fetched c o)
fetched_kind program c z None e k h = record { cpu = h; note = tt }
fetched_kind program c z (Some i) e k h = execute_kind c i (at z e) h
  where
    at : (z : ℤ) → fetched program z ≡ Some i → is_instruction i ≡ true
    at (pos n) e = elim (nat_le 16 n) as (λ b. cond b (slice_get program (n - 16)) None ≡ Some i → is_instruction i ≡ true) [ true ↦ λ e. all_found is_instruction program (n - 16) i k e | false ↦ λ e. absurd (cc) ] e
    at (negsuc n) e = absurd (cc)

exec_kind : (program : List Instr) (c : Cpu) → list_all is_instruction program ≡ true → IsCpu c → IsRun (exec_one program c)
unfolding exec_one
exec_kind program c k h = fetched_kind program c c.pc (fetched program c.pc) refl k h

code_kind : (s : State) (r : Process) → AreKinds s → list_all is_instruction (code_of s r) ≡ true
code_kind s r h = of (slice_get s.world.programs r.program) refl
  where
    of : (o : Option Program) → slice_get s.world.programs r.program ≡ o → list_all is_instruction (instructions o) ≡ true
    of None e = refl
    of (Some p) e =
        let k = all_found is_program s.world.programs r.program p h.world.programs e in
        (and_parts (is_own_id p.setgid) (list_all is_instruction p.instructions) (and_parts (is_own_id p.setuid) _ k).1).1

-- ---- a turn

kinds_placed : (s : State) (order : List ℕ) → AreKinds s → AreKinds (record s { order = order })
kinds_placed s order h = record { world = h.world; records = h.records; consoles = h.consoles }

silent_formed : (t : State) → AreKinds t → IsFormed (silent t)
silent_formed t h = record { entries = refl; kinds = h }

form_act : (granted : Bool) (s : State) (r : Process) → IsSaying s r → IsFormed (act granted s r)
unfolding set_cpu enter out_of_call
form_act granted s r c =
    let cpu = (exec_one (code_of s r) r.cpu).cpu in
    let run = exec_kind (code_of s r) r.cpu (code_kind s r c.kinds) (saying_kind s r c).cpu in
    let moves_on = kinds_change s r.pid (set_cpu cpu) (λ q. refl) (kind_set_cpu cpu run.cpu) c.kinds in
    by_act IsFormed AreKinds (λ t. IsOld t r) granted s r (record {
      here = old_saying s r c;
      deliveries = form_deliveries r (saying_number s r c);
      calls = form_ways granted s r c;
      enters_call = λ b. silent_formed _ (kinds_placed (change s r.pid (enter b)) _ (kinds_change s r.pid (enter b) (λ q. refl) (kind_enter b) c.kinds));
      begins_again = λ t h. silent_formed t h;
      leaves_call = λ t h. silent_formed _ (kinds_change t r.pid out_of_call (λ q. refl) kind_out h);
      waits = silent_formed _ (kinds_placed s _ c.kinds);
      runs = silent_formed _ moves_on;
      notes = λ z is. record { entries = one_formed (Noted r.pid z) (and_both (is_number r.pid) (is_i64 z) (saying_number s r c) (subst IsNote is run.note)); kinds = moves_on };
    })

form_happens : (granted : Bool) (s : State) (event : Event) → IsEvent event → IsRegular s → AreKinds s → IsFormed (happens granted s event)
unfolding happens
form_happens granted s Step b i k =
    by_step IsFormed granted s (silent_formed s k) (λ p r first e. form_act granted s r (record { regular = i; kinds = k; found = ap (λ n. lookup n s.processes) (pid_looked p s.processes r e) ∙ e }))
form_happens granted s Tick b i k = silent_formed _ (kinds_tick s k)
form_happens granted s (Key console byte) b i k = silent_formed _ (kinds_key s console byte b k)
form_happens granted s (Hangup console) b i k = silent_formed _ (kinds_hangup s console k)

form_next : (granted : Bool) (s : State) (event : Event) → IsEvent event → IsRegular s → AreKinds s → IsFormed (next granted s event)
form_next granted s event b i k =
    by_next IsFormed granted s event (λ h. silent_formed s k) (λ h. let f = form_happens granted s event b i k in record { entries = f.entries; kinds = kinds_settled _ f.kinds })

-- ---- the relation

-- the lines of an event have forms
lines_formed : (k : ℕ) (es : List Entry) → 1 ≤ k → k ≤ 1000000000000 → list_all is_entry es ≡ true → list_all is_line (numbered k es) ≡ true
lines_formed k [] low high h = refl
lines_formed k (e ∷ es) low high h =
    let p = and_parts (is_entry e) (list_all is_entry es) h in
    let first = p.0 in
    let rest = lines_formed k es low high p.1 in
    grind (arith, nat_tests, cases_Bool, low, high, first, rest)

-- Each line of an event has a form, with all numbers within their ranges.
pub step_formed : (old new : State) (event : Event) (entries : List Entry) → IsStep old event entries new → IsRegular old → AreKinds old → IsEvent event → (k : ℕ) → k < 1000000000000 → list_all is_line (numbered (k + 1) entries) ≡ true
step_formed old new event entries h i kinds b k few = lines_formed (k + 1) entries (omega arith) (omega (arith, few)) (subst (λ (o : Outcome). list_all is_entry o.entries ≡ true) h.comes (form_next h.granted old event b i kinds).entries)

-- And the parts of the state are of their kinds, still.
pub step_kinds : (old new : State) (event : Event) (entries : List Entry) → IsStep old event entries new → IsRegular old → AreKinds old → IsEvent event → AreKinds new
step_kinds old new event entries h i kinds b = subst (λ (o : Outcome). AreKinds o.state) h.comes (form_next h.granted old event b i kinds).kinds

-- at the start
pub first_kinds : (w : World) → IsWorld w → AreKinds (boot w)
unfolding lookup
first_kinds w h = record { world = h; records = λ p r e. one p r (1 == p) e; consoles = all_same is_console w.consoles unused_console refl }
  where
    one : (p : ℕ) (r : Process) (b : Bool) → cond b (Some first_process) None ≡ Some r → IsKind r
    one p r true e = let same : first_process ≡ r = cc in subst IsKind same first_kind
    one p r false e = absurd (cc)
