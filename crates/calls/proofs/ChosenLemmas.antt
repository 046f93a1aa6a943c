-- What is known of the signal that is chosen, and of one that is sent or taken out.
use Rattle.std.proofs.Common.{◌≡◌, ◌≢◌, ℕ, Bool, true, false, cond, not, ◌&&◌, ◌||◌, is_some, refl, ap, sym, ◌∙◌, arith, List, [], ◌∷◌, find, Option, Some, None, ◌==◌, ℤ}
use Rattle.std.specs.Option.{option_eq}
use Rattle.std.proofs.lemmas.Bool.{and_parts, eqb-true, eq-eqb}
use Rattle.posix.specs.Common.{has, KILL, is_realtime, Process, Signals, is_running, is_zombie, lookup, changed, at, State, is_pending, with_pending, with_queue, chosen, least_ready, is_ready, all_signals, taken, without_first, can_act, can_go_on, killed, exec_one, attempt_again, act, act_in, go_on, deliver_or, after_trap, code_of, hang_up, end_process, handle, take_out, deliver}
use Rattle.posix.specs.declared.process.Life.{Life}
use Rattle.posix.specs.declared.process.Life.TheVariants.{Running, Stopped}
use Rattle.posix.specs.declared.process.PendingSignal.{PendingSignal}
use Rattle.posix.specs.declared.process.Blocked.{Blocked}
use Rattle.posix.proofs.TableLemmas.{pid_looked}
use Rattle.posix.proofs.MapLemmas.{at_pid, lookup_on}

-- what a search finds passes its test
find_passes : (t : ℕ → Bool) (ns : List ℕ) (n : ℕ) → find t ns ≡ Some n → t n ≡ true
find_passes t [] n e = absurd (cc)
find_passes t (m ∷ ms) n e = grind (arith, find_passes t ms n)

-- a signal that is ready is pending
ready_pending : (g : Signals) (n : ℕ) → least_ready g ≡ Some n → is_pending g n ≡ true
unfolding least_ready
ready_pending g n e = (and_parts (is_pending g n) (not (has g.mask n)) (find_passes (is_ready g) all_signals n e)).0

-- if SIGKILL is chosen, it is pending
pub kill_chosen : (l : Life) (g : Signals) → chosen l g ≡ Some KILL → is_pending g KILL ≡ true
unfolding chosen
kill_chosen l g e = elim (is_pending g KILL) as (λ b. is_pending g KILL ≡ b → cond b (Some KILL) (cond (is_running l) (least_ready g) None) ≡ Some KILL → b ≡ true) [
  | true ↦ λ k h. refl
  | false ↦ λ k h. elim (is_running l) as (λ b. cond b (least_ready g) None ≡ Some KILL → false ≡ true) [
    | true ↦ λ m. sym k ∙ ready_pending g KILL m
    | false ↦ λ m. absurd (cc)
  ] h
] refl e

-- and is not pending if another is chosen, or none
pub no_kill_chosen : (l : Life) (g : Signals) → chosen l g ≢ Some KILL → is_pending g KILL ≡ false
unfolding chosen
no_kill_chosen l g ne = elim (is_pending g KILL) as (λ b. is_pending g KILL ≡ b → b ≡ false) [
  | true ↦ λ k. absurd (ne (rw k refl))
  | false ↦ λ k. refl
] refl

-- nor if none is
pub none_chosen : (l : Life) (g : Signals) → chosen l g ≡ None → is_pending g KILL ≡ false
none_chosen l g none = no_kill_chosen l g (λ k. let no = sym none ∙ k in absurd (cc))

-- a handler is entered the same, whether the signal was taken out of the record that is looked at or not
pub handle_taken : (s : State) (me : Process) (n : ℕ) (signal : PendingSignal) (address : ℤ) → handle s (take_out n me) signal address ≡ handle s me signal address
unfolding handle take_out taken end_process hang_up
handle_taken s me n signal address = elim (is_realtime n) as (λ b. handle s (record me { signals = cond b (with_queue (without_first n me.signals.queue) me.signals) (with_pending n None me.signals) }) signal address ≡ handle s me signal address) [ true ↦ refl | false ↦ refl ]

-- a process terminates the same
pub end_taken : (s : State) (me : Process) (n status : ℕ) → end_process s (take_out n me) status ≡ end_process s me status
unfolding take_out taken end_process hang_up
end_taken s me n status = refl

-- an existing process exists after a change that keeps its ID, changed
pub changed_there : (p : ℕ) (f : Process → Process) → ((r : Process) → (f r).pid ≡ r.pid) → (rs : List Process) (r : Process) → lookup p rs ≡ Some r → lookup p (changed p f rs) ≡ Some (f r)
unfolding changed
changed_there p f k rs r e =
    let here : (r.pid == p) ≡ true = eq-eqb r.pid p (pid_looked p rs r e) in
    lookup_on (at p f) (at_pid p f k) p rs r e ∙ rw here refl

-- ---- runnable processes

-- if SIGKILL is pending, a signal is chosen
kill_is_chosen : (l : Life) (g : Signals) → is_pending g KILL ≡ true → is_some (chosen l g) ≡ true
unfolding chosen
kill_is_chosen l g e = rw e refl

-- a running process is runnable if it need not wait
pub running_acts : (s : State) (r : Process) → r.life ≡ Running → can_act s r ≡ (can_go_on s r r.blocked || is_some (chosen r.life r.signals))
unfolding can_act
running_acts s r runs =
    ap (λ l. (not (is_zombie l) && is_pending r.signals KILL) || (is_running l && (can_go_on s r r.blocked || is_some (chosen r.life r.signals)))) runs
    ∙ elim (is_pending r.signals KILL) as (λ b. is_pending r.signals KILL ≡ b → (b || (can_go_on s r r.blocked || is_some (chosen r.life r.signals))) ≡ (can_go_on s r r.blocked || is_some (chosen r.life r.signals))) [
      | true ↦ λ e. let c = kill_is_chosen r.life r.signals e in grind arith
      | false ↦ λ e. refl
    ] refl

-- a stopped process is runnable if a signal is chosen: that is SIGKILL
pub stopped_acts : (s : State) (r : Process) → r.life ≡ Stopped → can_act s r ≡ is_some (chosen r.life r.signals)
unfolding can_act chosen
stopped_acts s r stops =
    ap (λ l. (not (is_zombie l) && is_pending r.signals KILL) || (is_running l && (can_go_on s r r.blocked || is_some (chosen r.life r.signals)))) stops
    ∙ elim (is_pending r.signals KILL) as (λ b. is_pending r.signals KILL ≡ b → (b || false) ≡ is_some (cond b (Some KILL) (cond (is_running r.life) (least_ready r.signals) None))) [
      | true ↦ λ e. refl
      | false ↦ λ e. sym (ap (λ l. is_some (cond (is_running l) (least_ready r.signals) None)) stops)
    ] refl

-- ---- what a process does, by what was found of it

-- a test of what is chosen
pub chosen_is : (o : Option ℕ) (n : ℕ) → option_eq (λ a b. a == b) o (Some n) ≡ true → o ≡ Some n
chosen_is None n e = absurd (cc)
chosen_is (Some m) n e = ap Some (eqb-true m n e)

pub chosen_not : (o : Option ℕ) (n : ℕ) → option_eq (λ a b. a == b) o (Some n) ≡ false → o ≢ Some n
chosen_not None n e = λ k. absurd (cc)
chosen_not (Some m) n e = λ k. let same : m ≡ n = cc in let t : false ≡ true = sym e ∙ eq-eqb m n same in absurd (cc)

-- KILL is pending
pub act_killed : (granted : Bool) (s : State) (r : Process) → is_pending r.signals KILL ≡ true → act granted s r ≡ end_process s r (killed KILL)
unfolding act
act_killed granted s r e = ap (λ b. cond b (end_process s r (killed KILL)) (act_in granted s r r.blocked)) e

-- it isn't
act_on_not_killed : (granted : Bool) (s : State) (r : Process) → is_pending r.signals KILL ≡ false → act granted s r ≡ act_in granted s r r.blocked
unfolding act
act_on_not_killed granted s r e = ap (λ b. cond b (end_process s r (killed KILL)) (act_in granted s r r.blocked)) e

-- and it is blocked in a call
pub act_blocked : (granted : Bool) (s : State) (r : Process) (b : Blocked) → is_pending r.signals KILL ≡ false → r.blocked ≡ Some b → act granted s r ≡ go_on s r (attempt_again s r b)
unfolding act_in
act_blocked granted s r b e in_call = act_on_not_killed granted s r e ∙ ap (act_in granted s r) in_call

-- or it is in none, and a signal is delivered
pub act_delivers : (granted : Bool) (s : State) (r : Process) (n : ℕ) → is_pending r.signals KILL ≡ false → r.blocked ≡ None → chosen r.life r.signals ≡ Some n → act granted s r ≡ deliver s r n
unfolding act_in
act_delivers granted s r n e free takes =
    act_on_not_killed granted s r e ∙ ap (act_in granted s r) free
    ∙ ap (λ o. deliver_or s r o (after_trap granted s r (exec_one (code_of s r) r.cpu).cpu (exec_one (code_of s r) r.cpu).trap)) takes

-- or it runs an instruction
pub act_runs : (granted : Bool) (s : State) (r : Process) → r.blocked ≡ None → chosen r.life r.signals ≡ None
    → act granted s r ≡ after_trap granted s r (exec_one (code_of s r) r.cpu).cpu (exec_one (code_of s r) r.cpu).trap
unfolding act_in
act_runs granted s r free none =
    act_on_not_killed granted s r (none_chosen r.life r.signals none) ∙ ap (act_in granted s r) free
    ∙ ap (λ o. deliver_or s r o (after_trap granted s r (exec_one (code_of s r) r.cpu).cpu (exec_one (code_of s r) r.cpu).trap)) none
