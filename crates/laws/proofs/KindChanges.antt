-- What each change of a record keeps of its kinds.
use Rattle.std.proofs.Common.{rules, ◌≡◌, ℕ, zero, suc, ◌+◌, ◌-◌, ◌<◌, ◌≤◌, Bool, true, false, cond, not, ◌&&◌, ◌||◌, ◌==◌, refl, ap, ◌∙◌, arith, subst, List, [], ◌∷◌, ◌++◌, filter, length, Option, Some, None, ℤ, pos, negsuc, nat_le, Result, Ok, Err}
use Rattle.std.specs.Prelude.{slice_set}
use Rattle.std.specs.Int.{w64, cast_signed}
use Rattle.std.specs.List.{list_all}
use Rattle.std.proofs.lemmas.Bool.{cases_Bool, cond_both, and_parts, leb-true, leb-false, le-leb}
use Rattle.std.proofs.lemmas.List.{length-append}
use Rattle.std.proofs.lemmas.Bool.Decides.{nat_tests}
use Rattle.posix.specs.declared.ids.Ids.{Ids}
use Rattle.posix.specs.declared.errno.Errno.{Errno}
use Rattle.posix.specs.declared.errno.Errno.TheVariants.{EINTR, EINVAL}
use Rattle.posix.specs.declared.how.How.{How}
use Rattle.posix.specs.declared.how.How.TheVariants as how
use Rattle.posix.specs.declared.call.Call.{Call}
use Rattle.posix.specs.declared.call.Call.TheVariants.{Setuid, Seteuid, Setgid, Setegid}
use Rattle.posix.specs.declared.process.Action.{Action}
use Rattle.posix.specs.declared.process.Blocked.{Blocked}
use Rattle.posix.specs.declared.process.Blocked.TheVariants as blocked
use Rattle.posix.specs.declared.process.Carried.{Carried}
use Rattle.posix.specs.declared.process.Frame.{Frame}
use Rattle.posix.specs.declared.process.Handler.{Handler}
use Rattle.posix.specs.declared.process.Handler.TheVariants as handler
use Rattle.posix.specs.declared.process.PendingSignal.{PendingSignal}
use Rattle.posix.specs.Common.{KILL, CONT, STOP, TSTP, TTIN, TTOU, is_realtime, is_stop_signal, word_of, maskable, Process, Signals, Credentials, Cpu, argument, initial_action, nothing_pending, zero_registers, zero_memory, fresh_cpu, reparented, Program, set_register, move_on, write_registers, finished, written, refusal, is_privileged, id_in, is_own, all_ids_set, effective_id_set, with_user, with_group, setuid, seteuid, setgid, setegid, ids_on_exec, action, has_sig, is_pending, with_pending, with_queue, make_pending, gets_no_signals, keeps, without_stops, after_discards, generated, signalled, has_flag, does_nothing, SA_SIGINFO, SA_RESETHAND, without_first, taken, discarded, most_queued, has_full_queue, is_queuer, ignores_children, noticed, ignores_stops, noticed_of_change, stopped_by, resumed, leave_call, is_interrupted, entered, handler_arguments, at_handler, after_entry, handles, is_full, newest_frame, returned, give_action, set_action, set_mask, handler_on_exec, action_on_exec, executed, in_group, in_session, with_alarm, is_due, rung, ring_at, alarm_signal, child_of, ended, made_zombie, news_told, take_out, give_credentials, give_signals, handler_word, handler_in, action_in, holding, set_cpu, waiting_signals, enter, out_of_call, is_i64, is_id, is_own_id, is_instruction, is_program, is_end_word}
use Rattle.posix.proofs.AttemptLemmas.{SetsIds}
use Rattle.laws.specs.TraceLines.{is_result}
use Rattle.laws.specs.Kinds.{are_ids, is_carried, is_pending_kind, is_queued_kind, is_handler, is_action, is_frame, AreSignals, IsCpu, AreCredentials, IsKind}
use Rattle.laws.proofs.KindLemmas.{and_both, all_set, all_get, all_found, all_append, all_take, all_map, all_same, small_i64, id_i64, cast_i64}

abbrev pub KeepsKind : (Process → Process) → Type 0
KeepsKind f = (r : Process) → IsKind r → IsKind (f r)

-- ---- signals

kind_pending : (s : ℕ) (c : Option Carried) (g : Signals) → is_pending_kind c ≡ true → AreSignals g → AreSignals (with_pending s c g)
kind_pending s c g k h = record { pending = all_set is_pending_kind g.standard (s - 1) c h.pending k; queue = h.queue; few = h.few; actions = h.actions; frames = h.frames }

-- what is left of a queue of such signals
abbrev IsLeft : List PendingSignal → List PendingSignal → Type 0
IsLeft queue rest = (list_all is_queued_kind rest ≡ true) × (length rest ≤ length queue)

-- as one goes
left_first : (s : ℕ) (queue : List PendingSignal) → list_all is_queued_kind queue ≡ true → IsLeft queue (without_first s queue)
unfolding without_first
left_first s [] h = (refl, omega arith)
left_first s (m ∷ ms) h =
    let p = and_parts (is_queued_kind m) (list_all is_queued_kind ms) h in
    let l = left_first s ms p.1 in
    cond_both (has_sig s m) ms (m ∷ without_first s ms) (IsLeft (m ∷ ms)) (λ t. (p.1, omega arith)) (λ t. (and_both (is_queued_kind m) (list_all is_queued_kind (without_first s ms)) p.0 l.0, omega (arith, l.1)))

-- as all go that a test says
left_passing : (stays : PendingSignal → Bool) (queue : List PendingSignal) → list_all is_queued_kind queue ≡ true → IsLeft queue (filter stays queue)
left_passing stays [] h = (refl, omega arith)
left_passing stays (m ∷ ms) h =
    let p = and_parts (is_queued_kind m) (list_all is_queued_kind ms) h in
    let l = left_passing stays ms p.1 in
    cond_both (stays m) (m ∷ filter stays ms) (filter stays ms) (IsLeft (m ∷ ms)) (λ t. (and_both (is_queued_kind m) (list_all is_queued_kind (filter stays ms)) p.0 l.0, omega (arith, l.1))) (λ t. (l.0, omega (arith, l.1)))

kind_left : (rest : List PendingSignal) (g : Signals) → IsLeft g.queue rest → AreSignals g → AreSignals (with_queue rest g)
kind_left rest g l h = let few = leb-true (length g.queue) most_queued h.few in let less : nat_le (length rest) most_queued ≡ true = le-leb (length rest) most_queued (omega (arith, l.1, few)) in search rules

-- a real-time signal is queued after the others, if there is room
kind_queued : (signal : PendingSignal) (g : Signals) → is_realtime signal.sig ≡ true → is_carried signal.carried ≡ true → nat_le most_queued (length g.queue) ≡ false → AreSignals g → AreSignals (with_queue (g.queue ++ signal ∷ []) g)
kind_queued signal g real k room h =
    let below = leb-false most_queued (length g.queue) room in
    let longer = length-append g.queue (signal ∷ []) in
    let few : nat_le (length (g.queue ++ signal ∷ [])) most_queued ≡ true = le-leb (length (g.queue ++ signal ∷ [])) most_queued (omega (arith, below, longer)) in
    let queue = all_append is_queued_kind g.queue (signal ∷ []) h.queue (and_both (is_queued_kind signal) true (and_both (is_realtime signal.sig) (is_carried signal.carried) real k) refl) in
    search (rules, few, queue)

kind_made : (signal : PendingSignal) (g : Signals) → is_carried signal.carried ≡ true → (is_realtime signal.sig ≡ true → nat_le most_queued (length g.queue) ≡ false) → AreSignals g → AreSignals (make_pending signal g)
kind_made signal g k room h =
    cond_both (is_realtime signal.sig) (with_queue (g.queue ++ signal ∷ []) g) (cond (is_pending g signal.sig) g (with_pending signal.sig (Some signal.carried) g)) AreSignals
    (λ real. kind_queued signal g real k (room real) h)
    (λ t. cond_both (is_pending g signal.sig) g (with_pending signal.sig (Some signal.carried) g) AreSignals (λ u. h) (λ u. kind_pending signal.sig (Some signal.carried) g k h))

kind_without_stops : (g : Signals) → AreSignals g → AreSignals (without_stops g)
unfolding without_stops
kind_without_stops g h = kind_pending STOP None _ refl (kind_pending TSTP None _ refl (kind_pending TTIN None _ refl (kind_pending TTOU None g refl h)))

kind_discards : (s : ℕ) (g : Signals) → AreSignals g → AreSignals (after_discards s g)
kind_discards s g h =
    cond_both (s == CONT) _ _ AreSignals (λ t. kind_without_stops g h)
    (λ t. cond_both (is_stop_signal s) _ _ AreSignals (λ u. kind_pending CONT None g refl h) (λ u. h))

-- they leave the queue
queue_discards : (s : ℕ) (g : Signals) → (after_discards s g).queue ≡ g.queue
unfolding without_stops
queue_discards s g = cond_both (s == CONT) _ _ (λ (x : Signals). x.queue ≡ g.queue) (λ t. refl) (λ t. cond_both (is_stop_signal s) _ _ (λ (x : Signals). x.queue ≡ g.queue) (λ u. refl) (λ u. refl))

pub kind_with : (r : Process) (g : Signals) → AreSignals g → IsKind r → IsKind (record r { signals = g })
kind_with r g k h = record { pid = h.pid; parent = h.parent; credentials = h.credentials; signals = k; life = h.life; news = h.news; cpu = h.cpu }

-- where the signal would be queued for the process, its queue isn't full
abbrev pub HasRoom : ℕ → Process → Type 0
HasRoom n r = (is_queuer n r && has_full_queue r) ≡ false

-- no standard signal would be
pub standard_room : (n : ℕ) (r : Process) → is_realtime n ≡ false → HasRoom n r
standard_room n r e = rw e refl

pub kind_signalled : (signal : PendingSignal) → is_carried signal.carried ≡ true → (r : Process) → HasRoom signal.sig r → IsKind r → IsKind (signalled signal r)
unfolding signalled generated
kind_signalled signal k r room h =
    let g = r.signals in
    let x = after_discards signal.sig g in
    let kept = kind_discards signal.sig g h.signals in
    kind_with r (generated r.pid r.life signal g)
    (cond_both (gets_no_signals r.pid r.life g signal.sig) g (cond (keeps g signal.sig) (make_pending signal x) x) AreSignals (λ t. h.signals)
    (λ t. cond_both (keeps g signal.sig) (make_pending signal x) x AreSignals
    (λ u. kind_made signal x k (λ real. ap (λ (q : List PendingSignal). nat_le most_queued (length q)) (queue_discards signal.sig g) ∙ below _ _ _ (has_full_queue r) real t u room) kept) (λ u. kept))) h
  where
    below : (real none keeps full : Bool) → real ≡ true → none ≡ false → keeps ≡ true → ((real && (not none && keeps)) && full) ≡ false → full ≡ false
    below real none keeps full a b c e = grind (arith, cases_Bool, a, b, c, e)

-- a standard signal
pub kind_standard : (signal : PendingSignal) → is_carried signal.carried ≡ true → is_realtime signal.sig ≡ false → KeepsKind (signalled signal)
kind_standard signal k e r h = kind_signalled signal k r (standard_room signal.sig r e) h

pub kind_noticed : (signal : PendingSignal) → is_carried signal.carried ≡ true → is_realtime signal.sig ≡ false → KeepsKind (noticed signal)
unfolding noticed
kind_noticed signal k e r h = cond_both (ignores_children r.signals) _ _ IsKind (λ t. h) (λ t. kind_standard signal k e r h)

pub kind_noticed_of_change : (signal : PendingSignal) → is_carried signal.carried ≡ true → is_realtime signal.sig ≡ false → KeepsKind (noticed_of_change signal)
unfolding noticed_of_change
kind_noticed_of_change signal k e r h = cond_both (ignores_stops r.signals) _ _ IsKind (λ t. h) (λ t. kind_standard signal k e r h)

pub kind_resumed : KeepsKind resumed
unfolding resumed
kind_resumed r h = record { pid = h.pid; parent = h.parent; credentials = h.credentials; signals = h.signals; life = refl; news = refl; cpu = h.cpu }

pub kind_stopped : (n : ℕ) → is_stop_signal n ≡ true → KeepsKind (stopped_by n)
unfolding stopped_by
kind_stopped n k r h = record { pid = h.pid; parent = h.parent; credentials = h.credentials; signals = h.signals; life = refl; news = k; cpu = h.cpu }

pub kind_ring : (now : ℕ) → KeepsKind (ring_at now)
unfolding rung with_alarm
kind_ring now r h = cond_both (is_due now r.alarm) _ _ IsKind
    (λ t. let k = kind_standard alarm_signal refl refl r h in record { pid = k.pid; parent = k.parent; credentials = k.credentials; signals = k.signals; life = k.life; news = k.news; cpu = k.cpu }) (λ t. h)

kind_taken_out : (n : ℕ) (g : Signals) → AreSignals g → AreSignals (taken n g)
unfolding taken
kind_taken_out n g h = cond_both (is_realtime n) (with_queue (without_first n g.queue) g) (with_pending n None g) AreSignals (λ t. kind_left (without_first n g.queue) g (left_first n g.queue h.queue) h) (λ t. kind_pending n None g refl h)

kind_discarded : (n : ℕ) (g : Signals) → AreSignals g → AreSignals (discarded n g)
unfolding discarded
kind_discarded n g h =
    let stays : PendingSignal → Bool = λ m. not (has_sig n m) in
    cond_both (is_realtime n) (with_queue (filter stays g.queue) g) (with_pending n None g) AreSignals (λ t. kind_left (filter stays g.queue) g (left_passing stays g.queue h.queue) h) (λ t. kind_pending n None g refl h)

pub kind_take_out : (n : ℕ) → KeepsKind (take_out n)
unfolding take_out
kind_take_out n r h = kind_with r (taken n r.signals) (kind_taken_out n r.signals h.signals) h

-- ---- ends and births

nothing_kind : list_all is_pending_kind nothing_pending ≡ true
unfolding nothing_pending
nothing_kind = refl

pub kind_made_zombie : (w : ℕ) → is_end_word w ≡ true → KeepsKind (made_zombie w)
unfolding made_zombie
kind_made_zombie w k r h = record { pid = h.pid; parent = h.parent; credentials = h.credentials; signals = record { pending = nothing_kind; queue = refl; few = refl; actions = h.signals.actions; frames = refl }; life = k; news = refl; cpu = h.cpu }

pub kind_ended : (w : ℕ) → is_end_word w ≡ true → KeepsKind (ended w)
unfolding ended
kind_ended w k r h = record { pid = h.pid; parent = h.parent; credentials = h.credentials; signals = h.signals; life = k; news = h.news; cpu = h.cpu }

pub kind_reparented : (p heir : ℕ) → is_id heir ≡ true → KeepsKind (reparented p heir)
kind_reparented p heir k r h = cond_both (r.parent == p) _ _ IsKind (λ t. record { pid = h.pid; parent = k; credentials = h.credentials; signals = h.signals; life = h.life; news = h.news; cpu = h.cpu }) (λ t. h)

-- ---- processors

kind_register : (c : Cpu) (i : ℕ) (z : ℤ) → is_i64 z ≡ true → IsCpu c → IsCpu (set_register c i z)
kind_register c i z k h = record { registers = all_set is_i64 c.registers i z h.registers k; memory = h.memory }

kind_move_on : (c : Cpu) → IsCpu c → IsCpu (move_on c)
kind_move_on c h = record { registers = h.registers; memory = h.memory }

-- results are i64
abbrev pub are_results : List (ℕ × ℤ) → Bool
are_results [] = true
are_results (w ∷ ws) = is_i64 w.1 && are_results ws

kind_registers : (ws : List (ℕ × ℤ)) (c : Cpu) → are_results ws ≡ true → IsCpu c → IsCpu (write_registers ws c)
kind_registers [] c k h = h
kind_registers (w ∷ ws) c k h = let p = and_parts (is_i64 w.1) (are_results ws) k in kind_registers ws (set_register c w.0 w.1) p.1 (kind_register c w.0 w.1 p.0 h)

kind_cpu : (r : Process) (c : Cpu) (b : Option Blocked) → IsCpu c → IsKind r → IsKind (record r { cpu = c; blocked = b })
kind_cpu r c b k h = record { pid = h.pid; parent = h.parent; credentials = h.credentials; signals = h.signals; life = h.life; news = h.news; cpu = k }

pub kind_finished : (ws : List (ℕ × ℤ)) → are_results ws ≡ true → KeepsKind (finished ws)
unfolding finished
kind_finished ws k r h = kind_cpu r (move_on (write_registers ws r.cpu)) None (kind_move_on _ (kind_registers ws r.cpu k h.cpu)) h

pub kind_written : (i : ℕ) (z : ℤ) → is_i64 z ≡ true → KeepsKind (written i z)
unfolding written
kind_written i z k r h = kind_cpu r (set_register r.cpu i z) r.blocked (kind_register r.cpu i z k h.cpu) h

pub kind_set_cpu : (c : Cpu) → IsCpu c → KeepsKind (set_cpu c)
unfolding set_cpu
kind_set_cpu c k r h = kind_cpu r c r.blocked k h

pub kind_argument : (r : Process) (i : ℕ) → IsKind r → is_i64 (argument r i) ≡ true
kind_argument r i h = all_get is_i64 r.cpu.registers i (pos 0) h.cpu.registers refl

-- the child of one whose parts are of their kinds
pub kind_child : (birth : ℕ) (me : Process) (n : ℕ) → is_id n ≡ true → IsKind me → IsKind (child_of birth me n)
unfolding child_of finished
kind_child birth me n k h = search (rules, nothing_kind, kind_move_on, kind_register)

-- ---- handlers

pub kind_action : (g : Signals) (s : ℕ) → AreSignals g → is_action (action g s) ≡ true
kind_action g s h = all_get is_action g.actions (s - 1) initial_action h.actions refl

kind_after_entry : (a : Action) → is_action a ≡ true → is_action (after_entry a) ≡ true
kind_after_entry a h = cond_both (has_flag a SA_RESETHAND) _ _ (λ (a : Action). is_action a ≡ true) (λ t. refl) (λ t. h)

kind_left_call : (b : Option Blocked) (a : Action) (c : Cpu) → IsCpu c → IsCpu (leave_call b a c)
kind_left_call b a c h = cond_both (is_interrupted b a) _ _ IsCpu (λ t. kind_move_on _ (kind_register c 0 (refusal EINTR) refl h)) (λ t. h)

kind_arguments : (signal : PendingSignal) (a : Action) (c : Cpu) → is_i64 (pos signal.sig) ≡ true → is_carried signal.carried ≡ true → IsCpu c → IsCpu (handler_arguments signal a c)
kind_arguments signal a c k carried h =
    let d = kind_register c 1 (pos signal.sig) k h in
    let p = and_parts (is_i64 signal.carried.value) (is_id signal.carried.sender) carried in
    cond_both (has_flag a SA_SIGINFO) _ _ IsCpu (λ t. kind_register _ 3 (pos signal.carried.sender) (id_i64 signal.carried.sender p.1) (kind_register _ 2 signal.carried.value p.0 d)) (λ t. d)

pub kind_handles : (signal : PendingSignal) (address : ℤ) → is_i64 (pos signal.sig) ≡ true → is_carried signal.carried ≡ true → KeepsKind (handles signal address)
unfolding handles at_handler entered
kind_handles signal address k carried r h =
    let a = action r.signals signal.sig in
    let c = leave_call r.blocked a r.cpu in
    let cpu = kind_left_call r.blocked a r.cpu h.cpu in
    let args = kind_arguments signal a c k carried cpu in
    let one : list_all is_i64 c.registers ≡ true = cpu.registers in
    cond_both (is_full r.signals) _ _ IsKind (λ t. kind_cpu r c None cpu h)
    (λ t. record {
      pid = h.pid;
      parent = h.parent;
      credentials = h.credentials;
      signals = record {
        pending = h.signals.pending;
        queue = h.signals.queue;
        few = h.signals.few;
        actions = all_set is_action r.signals.actions (signal.sig - 1) (after_entry a) h.signals.actions (kind_after_entry a (kind_action r.signals signal.sig h.signals));
        frames = all_append is_frame r.signals.frames _ h.signals.frames (and_both _ _ one refl);
      };
      life = h.life;
      news = h.news;
      cpu = record { registers = args.registers; memory = args.memory };
    })

pub kind_frame : (g : Signals) (frame : Frame) → AreSignals g → newest_frame g ≡ Some frame → is_frame frame ≡ true
kind_frame g frame h e = all_found is_frame g.frames (length g.frames - 1) frame h.frames e

pub kind_returned : (frame : Frame) → is_frame frame ≡ true → KeepsKind (returned frame)
unfolding returned
kind_returned frame k r h = search (rules, all_take)

-- ---- calls

kind_waiting : (b : Blocked) (z : ℤ) (g : Signals) → AreSignals g → AreSignals (waiting_signals b z g)
kind_waiting (blocked.Sigsuspend earlier) z g h = record { pending = h.pending; queue = h.queue; few = h.few; actions = h.actions; frames = h.frames }
kind_waiting b z g h = h

pub kind_enter : (b : Blocked) → KeepsKind (enter b)
unfolding enter
kind_enter b r h = record { pid = h.pid; parent = h.parent; credentials = h.credentials; signals = kind_waiting b (argument r 1) r.signals h.signals; life = h.life; news = h.news; cpu = h.cpu }

pub kind_out : KeepsKind out_of_call
unfolding out_of_call
kind_out r h = record { pid = h.pid; parent = h.parent; credentials = h.credentials; signals = h.signals; life = h.life; news = h.news; cpu = h.cpu }

pub kind_told : KeepsKind news_told
unfolding news_told
kind_told r h = record { pid = h.pid; parent = h.parent; credentials = h.credentials; signals = h.signals; life = h.life; news = refl; cpu = h.cpu }

pub kind_alarm : (due : Option ℕ) → KeepsKind (with_alarm due)
unfolding with_alarm
kind_alarm due r h = record { pid = h.pid; parent = h.parent; credentials = h.credentials; signals = h.signals; life = h.life; news = h.news; cpu = h.cpu }

pub kind_grouped : (g : ℕ) → KeepsKind (in_group g)
unfolding in_group
kind_grouped g r h = record { pid = h.pid; parent = h.parent; credentials = h.credentials; signals = h.signals; life = h.life; news = h.news; cpu = h.cpu }

pub kind_led : KeepsKind in_session
unfolding in_session
kind_led r h = record { pid = h.pid; parent = h.parent; credentials = h.credentials; signals = h.signals; life = h.life; news = h.news; cpu = h.cpu }

pub kind_credentials : (c : Credentials) → AreCredentials c → KeepsKind (give_credentials c)
unfolding give_credentials
kind_credentials c k r h = record { pid = h.pid; parent = h.parent; credentials = k; signals = h.signals; life = h.life; news = h.news; cpu = h.cpu }

kind_word : (x : Handler) → is_handler x ≡ true → is_i64 (handler_word x) ≡ true
kind_word handler.Default h = refl
kind_word handler.Ignore h = refl
kind_word (handler.At address) h = h

pub kind_holding : (a : Action) (g : Signals) → is_action a ≡ true → AreSignals g → KeepsKind (λ r. holding a (give_signals g r))
unfolding give_signals
kind_holding a g k s r h =
    kind_written 4 (cast_signed w64 a.flags.0) (cast_i64 a.flags.0) _ (kind_written 3 (word_of a.mask) (cast_i64 a.mask) _ (kind_written 2 (handler_word a.handler) (kind_word a.handler k) _ (kind_with r g s h)))

-- the handler that a register holds
kind_handler : (z : ℤ) → is_i64 z ≡ true → is_handler (handler_in z) ≡ true
kind_handler (pos zero) h = refl
kind_handler (pos (suc zero)) h = refl
kind_handler (pos (suc (suc n))) h = let l : suc (suc n) < 9223372036854775808 = grind (arith, nat_tests, h) in small_i64 (n + 2) (omega (arith, l))
kind_handler (negsuc n) h = h

-- a new action
kind_given : (n : ℕ) (a : Action) (g : Signals) → is_action a ≡ true → AreSignals g → AreSignals (give_action n a g)
kind_given n a g k s =
    let one : AreSignals (record g { actions = slice_set g.actions (n - 1) (record a { mask = maskable a.mask }) }) =
    record { pending = s.pending; queue = s.queue; few = s.few; actions = all_set is_action g.actions (n - 1) (record a { mask = maskable a.mask }) s.actions k; frames = s.frames } in
    cond_both (does_nothing a.handler n) _ _ AreSignals (λ t. kind_discarded n _ one) (λ t. one)

pub kind_set_action : (n : ℕ) (me : Process) (g h : Signals) → IsKind me → AreSignals g → set_action n (action_in me) g ≡ Ok h → AreSignals h
unfolding set_action
kind_set_action n me g h k s e = elim (n == KILL || n == STOP) as (λ b. cond b (Err EINVAL) (Ok (give_action n (action_in me) g)) ≡ Ok h → AreSignals h) [
  | true ↦ λ e. absurd (cc)
  | false ↦ λ e. let same : give_action n (action_in me) g ≡ h = cc in subst AreSignals same (kind_given n (action_in me) g (kind_handler (argument me 2) (kind_argument me 2 k)) s)
] e

pub kind_mask : (what : How) (set : ℕ) (g : Signals) → AreSignals g → AreSignals (set_mask what set g)
unfolding set_mask
kind_mask how.Block set g h = record { pending = h.pending; queue = h.queue; few = h.few; actions = h.actions; frames = h.frames }
kind_mask what set g h = record { pending = h.pending; queue = h.queue; few = h.few; actions = h.actions; frames = h.frames }

-- ---- ids

kind_id_in : (z : ℤ) (n : ℕ) → id_in z ≡ Some n → is_id n ≡ true
kind_id_in (pos m) n e = grind (arith, nat_tests, e)
kind_id_in (negsuc m) n e = absurd (cc)

-- ids that a result gives
abbrev IdsIf : Result (Ids ℕ) Errno → Type 0
IdsIf (Ok ids) = are_ids ids ≡ true
IdsIf (Err why) = Unit {0}

ids_either : (b : Bool) (x y : Result (Ids ℕ) Errno) → IdsIf x → IdsIf y → IdsIf (cond b x y)
ids_either true x y h k = h
ids_either false x y h k = k

kind_effective : (ids : Ids ℕ) (n : ℕ) → is_id n ≡ true → are_ids ids ≡ true → are_ids (record ids { effective = n }) ≡ true
kind_effective ids n k h = grind (arith, cases_Bool, k, h)

kind_all_ids : (privileged : Bool) (ids : Ids ℕ) (z : ℤ) (o : Option ℕ) → id_in z ≡ o → are_ids ids ≡ true → IdsIf (all_ids_set privileged ids o)
kind_all_ids privileged ids z None e h = tt
kind_all_ids privileged ids z (Some n) e h =
    let k = kind_id_in z n e in
    ids_either privileged _ _ (and_both (is_id n) _ k (and_both (is_id n) (is_id n) k k)) (ids_either (is_own ids n) _ _ (kind_effective ids n k h) tt)

kind_effective_id : (privileged : Bool) (ids : Ids ℕ) (z : ℤ) (o : Option ℕ) → id_in z ≡ o → are_ids ids ≡ true → IdsIf (effective_id_set privileged ids o)
kind_effective_id privileged ids z None e h = tt
kind_effective_id privileged ids z (Some n) e h = ids_either (privileged || is_own ids n) _ _ (kind_effective ids n (kind_id_in z n e) h) tt

-- credentials that a result gives
abbrev CredentialsIf : Result Credentials Errno → Type 0
CredentialsIf (Ok c) = AreCredentials c
CredentialsIf (Err why) = Unit {0}

kind_user : (c : Credentials) (o : Result (Ids ℕ) Errno) → AreCredentials c → IdsIf o → CredentialsIf (with_user c o)
kind_user c (Ok ids) h k = record { user = k; group = h.group }
kind_user c (Err why) h k = tt

kind_group : (c : Credentials) (o : Result (Ids ℕ) Errno) → AreCredentials c → IdsIf o → CredentialsIf (with_group c o)
kind_group c (Ok ids) h k = record { user = h.user; group = k }
kind_group c (Err why) h k = tt

-- a call that sets ids answers 0
pub kind_ids_set : (me : Process) (call : Call) (new : Credentials) → AreCredentials me.credentials → SetsIds me call new → AreCredentials new × (is_result call (pos 0) ≡ true)
unfolding setuid seteuid setgid setegid
kind_ids_set me Setuid new h is = (subst CredentialsIf is (kind_user me.credentials _ h (kind_all_ids (is_privileged me.credentials) me.credentials.user (argument me 1) (id_in (argument me 1)) refl h.user)), refl)
kind_ids_set me Seteuid new h is = (subst CredentialsIf is (kind_user me.credentials _ h (kind_effective_id (is_privileged me.credentials) me.credentials.user (argument me 1) (id_in (argument me 1)) refl h.user)), refl)
kind_ids_set me Setgid new h is = (subst CredentialsIf is (kind_group me.credentials _ h (kind_all_ids (is_privileged me.credentials) me.credentials.group (argument me 1) (id_in (argument me 1)) refl h.group)), refl)
kind_ids_set me Setegid new h is = (subst CredentialsIf is (kind_group me.credentials _ h (kind_effective_id (is_privileged me.credentials) me.credentials.group (argument me 1) (id_in (argument me 1)) refl h.group)), refl)
kind_ids_set me call new h is = absurd (is)

-- ---- exec

kind_ids_on_exec : (own : Option ℕ) (ids : Ids ℕ) → is_own_id own ≡ true → are_ids ids ≡ true → are_ids (ids_on_exec own ids) ≡ true
kind_ids_on_exec None ids k h = grind (arith, cases_Bool, h)
kind_ids_on_exec (Some n) ids k h = grind (arith, cases_Bool, k, h)

kind_action_on_exec : (x : Handler) → is_handler (handler_on_exec x) ≡ true
kind_action_on_exec handler.Default = refl
kind_action_on_exec x = refl

kind_fresh : IsCpu fresh_cpu
unfolding zero_registers zero_memory
kind_fresh = record { registers = all_same is_i64 8 (pos 0) refl; memory = all_same is_i64 256 (pos 0) refl }

pub kind_executed : (number : ℕ) (program : Program) → is_program program ≡ true → KeepsKind (executed number program)
unfolding executed
kind_executed number program k r h =
    let p = and_parts (is_own_id program.setuid) (is_own_id program.setgid && list_all is_instruction program.instructions) k in
    let q = and_parts (is_own_id program.setgid) (list_all is_instruction program.instructions) p.1 in
    let actions = all_map is_action is_action action_on_exec (λ a t. kind_action_on_exec a.handler) r.signals.actions h.signals.actions in
    search (rules, kind_ids_on_exec, kind_register, kind_argument, kind_fresh, p.0, q.0, actions)
