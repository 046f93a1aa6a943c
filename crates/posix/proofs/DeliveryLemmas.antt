-- The ways in which deliveries and turns end: what holds of each of them holds of each turn, and so of each step.
use Rattle.std.proofs.Common.{◌≡◌, ℕ, Bool, true, not, ◌&&◌, refl, [], ◌∷◌, ◌++◌, Option, Some, None, option_and_then, ◌==◌, ℤ, inl, inr, ◌⊎◌}
use Rattle.std.proofs.lemmas.Bool.{cond_both}
use Rattle.posix.specs.declared.entry.Entry.TheVariants.{Noted, Handled, Returned}
use Rattle.posix.specs.declared.instr.Trap.{Trap}
use Rattle.posix.specs.declared.instr.Trap.TheVariants as trap
use Rattle.posix.specs.declared.process.Action.{Action}
use Rattle.posix.specs.declared.process.Blocked.{Blocked}
use Rattle.posix.specs.declared.process.Frame.{Frame}
use Rattle.posix.specs.declared.process.Handler.{Handler}
use Rattle.posix.specs.declared.process.Handler.TheVariants as handler
use Rattle.posix.specs.declared.process.PendingSignal.{PendingSignal}
use Rattle.posix.specs.declared.sig.DefaultAction.{DefaultAction}
use Rattle.posix.specs.declared.sig.DefaultAction.TheVariants as default
use Rattle.posix.specs.Common.{KILL, SEGV, STOP, is_signal, is_stop_signal, default_action, has, killed, Process, lookup, State, change, lose_place, current, process, current_process, exec_one, Outcome, silent, Attempted, Done, Block, Again, action, is_pending, is_orphaned, chosen, carried_by, from_kernel, handles, is_full, newest_frame, returned, end_process, interruption, handle, discard, stop_process, act_by_default, act_on, take_out, deliver, fault_with, fault, return_to, return_from_handler, attempt, attempt_again, set_cpu, enter, begin_call, after_trap, deliver_or, out_of_call, go_on, code_of, act_in, act, step}
use Rattle.posix.proofs.SignalLemmas.{chosen_signal, default_stop, IsSignalled, trap_signalled}
use Rattle.posix.proofs.AttemptLemmas.{Meets, Ways, by_attempt, by_again}

-- ---- deliveries

-- a signal that is delivered to the process comes from the kernel, or with what was pending for it
pub record Comes (r : Process) (signal : PendingSignal) : Type 0 where
  pub number : is_signal signal.sig ≡ true
  pub carried : (signal.carried ≡ from_kernel) ⊎ ((n : ℕ) × (signal.carried ≡ carried_by n r.signals))

-- What holds of the ways in which a signal acts on r: M is what holds of outcomes, and B of a state in which it does so.
pub record Deliveries (M : Outcome → Type 0) (B : State → Type 0) (r : Process) : Type 0 where
  pub kills : (t : State) (n : ℕ) → B t → is_signal n ≡ true → M (end_process t r (killed n))
  pub interrupts : (a : Action) (o : Outcome) → M o → M (record { state = o.state; entries = interruption r.pid r.blocked a ++ o.entries })
  pub enters : (t : State) (signal : PendingSignal) (address : ℤ) → B t → Comes r signal → B (change t r.pid (handles signal address))
  pub shows_handler : (t : State) (signal : PendingSignal) (address : ℤ) → B t → Comes r signal
      → M (record { state = change t r.pid (handles signal address); entries = Handled r.pid signal.sig signal.carried.value signal.carried.sender ∷ [] })
  pub discards : (t : State) (n : ℕ) → B t → is_signal n ≡ true → M (discard t r.pid n)
  pub stops : (t : State) (n : ℕ) → B t → is_signal n ≡ true → is_stop_signal n ≡ true → M (stop_process t r n)
  pub takes : (t : State) (n : ℕ) → B t → B (change t r.pid (take_out n))
  pub returns : (t : State) (frame : Frame) → B t → newest_frame r.signals ≡ Some frame → M (record { state = change t r.pid (returned frame); entries = Returned r.pid ∷ [] })

module _ (M : Outcome → Type 0) (B : State → Type 0) (r : Process) (d : Deliveries M B r) where
  by_handle : (t : State) (signal : PendingSignal) (address : ℤ) → B t → Comes r signal → M (handle t r signal address)
  unfolding handle
  by_handle t signal address b comes =
      let a = action r.signals signal.sig in
      let entered = d.enters t signal address b comes in
      cond_both (is_full r.signals) _ _ M (λ e. d.interrupts a _ (d.kills (change t r.pid (handles signal address)) SEGV entered refl)) (λ e. d.interrupts a _ (d.shows_handler t signal address b comes))

  by_default : (t : State) (n : ℕ) (a : DefaultAction) → default_action n ≡ a → B t → is_signal n ≡ true → M (act_by_default t r n a)
  by_default t n default.Terminate is b sig = d.kills t n b sig
  by_default t n default.Stop is b sig =
      cond_both (not (n == STOP) && is_orphaned r.group t.processes) _ _ M (λ e. d.discards t n b sig) (λ e. d.stops t n b sig (default_stop n is))
  by_default t n _ is b sig = d.discards t n b sig

  by_action : (t : State) (signal : PendingSignal) (x : Handler) → B t → Comes r signal → M (act_on t r signal x)
  by_action t signal (handler.At address) b comes = by_handle t signal address b comes
  by_action t signal handler.Ignore b comes = d.discards t signal.sig b comes.number
  by_action t signal handler.Default b comes =
      cond_both (r.pid == 1) _ _ M (λ e. d.discards t signal.sig b comes.number) (λ e. by_default t signal.sig (default_action signal.sig) refl b comes.number)

  by_deliver : (t : State) (n : ℕ) → B t → is_signal n ≡ true → M (deliver t r n)
  unfolding deliver
  by_deliver t n b sig =
      by_action (change t r.pid (take_out n)) (record { sig = n; carried = carried_by n r.signals }) (action r.signals n).handler (d.takes t n b) (record { number = sig; carried = inr (n, refl) })

  by_fault : (t : State) (n : ℕ) → B t → is_signal n ≡ true → M (fault t r n)
  unfolding fault
  by_fault t n b sig = with (action r.signals n).handler
    where
      with : (x : Handler) → M (fault_with t r n x)
      with (handler.At address) =
          cond_both (has r.signals.mask n) _ _ M (λ e. d.kills t n b sig) (λ e. by_handle t (record { sig = n; carried = from_kernel }) address b (record { number = sig; carried = inl refl }))
      with _ = d.kills t n b sig

  -- What holds of the ways in which a signal acts holds of each return from a handler.
  pub by_return : (t : State) → B t → M (return_from_handler t r)
  unfolding return_from_handler
  by_return t b = to (newest_frame r.signals) refl
    where
      to : (frame : Option Frame) → newest_frame r.signals ≡ frame → M (return_to t r frame)
      to None is = by_fault t SEGV b refl
      to (Some frame) is = d.returns t frame b is

-- ---- turns

-- What holds of the ways in which r acts in its turn: A is what holds of a state to which a call leads that begins again.
pub record Turn (M : Outcome → Type 0) (A B : State → Type 0) (granted : Bool) (s : State) (r : Process) : Type 0 where
  pub here : B s
  pub deliveries : Deliveries M B r
  pub calls : Ways M A granted s r
  pub enters_call : (b : Blocked) → M (silent (lose_place (change s r.pid (enter b)) r.pid))
  pub begins_again : (t : State) → A t → M (silent t)
  pub leaves_call : (t : State) → A t → M (silent (change t r.pid out_of_call))
  pub waits : M (silent (lose_place s r.pid))
  pub runs : M (silent (change s r.pid (set_cpu (exec_one (code_of s r) r.cpu).cpu)))
  pub notes : (z : ℤ) → (exec_one (code_of s r) r.cpu).trap ≡ trap.Note z → M (record { state = change s r.pid (set_cpu (exec_one (code_of s r) r.cpu).cpu); entries = Noted r.pid z ∷ [] })

module _ (M : Outcome → Type 0) (A B : State → Type 0) (granted : Bool) (s : State) (r : Process) (w : Turn M A B granted s r) where
  -- a turn in which KILL isn't pending
  pub by_turn : M (act_in granted s r r.blocked)
  unfolding act_in after_trap
  by_turn = by r.blocked
    where
      or_delivers : (n : Option ℕ) (other : Outcome) → chosen r.life r.signals ≡ n → M other → M (deliver_or s r n other)
      or_delivers None other is h = h
      or_delivers (Some n) other is h = by_deliver M B r w.deliveries s n w.here (chosen_signal r.life r.signals n is)

      begins : (a : Attempted) → Meets M A a → M (begin_call s r a)
      begins (Done o) h = h
      begins (Block b) h = w.enters_call b
      begins (Again t) h = w.begins_again t h

      goes_on : (a : Attempted) → Meets M A a → M (go_on s r a)
      goes_on (Done o) h = h
      goes_on (Block b) h = or_delivers (chosen r.life r.signals) _ refl w.waits
      goes_on (Again t) h = w.leaves_call t h

      traps : (t : Trap) → (exec_one (code_of s r) r.cpu).trap ≡ t → IsSignalled t → M (after_trap granted s r (exec_one (code_of s r) r.cpu).cpu t)
      traps trap.Next is sig = w.runs
      traps (trap.Note z) is sig = w.notes z is
      traps (trap.Call call) is sig = begins (attempt granted s r call) (by_attempt M A granted s r w.calls call)
      traps (trap.Fault n) is sig = by_fault M B r w.deliveries s n w.here sig

      by : (b : Option Blocked) → M (act_in granted s r b)
      by (Some b) = goes_on (attempt_again s r b) (by_again M A s r w.calls.retries b)
      by None = or_delivers (chosen r.life r.signals) _ refl (traps (exec_one (code_of s r) r.cpu).trap refl (trap_signalled (code_of s r) r.cpu))

  -- each turn
  pub by_act : M (act granted s r)
  unfolding act
  by_act = cond_both (is_pending r.signals KILL) _ _ M (λ t. w.deliveries.kills s KILL w.here refl) (λ t. by_turn)

-- What holds where there is no current process, and of its turn where there is one, holds of each step.
pub by_step : (M : Outcome → Type 0) (granted : Bool) (s : State) → M (silent s) → ((p : ℕ) (r : Process) → current s ≡ Some p → lookup p s.processes ≡ Some r → M (act granted s r)) → M (step granted s (current_process s))
unfolding step
by_step M granted s none acts = on (current s) refl
  where
    found : (p : ℕ) (o : Option Process) → current s ≡ Some p → lookup p s.processes ≡ o → M (step granted s o)
    found p None first is = none
    found p (Some r) first is = acts p r first is

    on : (c : Option ℕ) → current s ≡ c → M (step granted s (option_and_then (process s) c))
    on None first = none
    on (Some p) first = found p (lookup p s.processes) first refl
