-- Outcomes of calls.
use Rattle.std.proofs.Common.{◌≡◌, ℕ, Bool, true, false, cond, refl, ap, sym, ◌∙◌, subst, Option, Some, List, map, [], ◌∷◌, ◌++◌, ℤ, ◌==◌}
use Rattle.std.specs.Option.{IfSome}
use Rattle.posix.specs.declared.call.Call.{Call}
use Rattle.posix.specs.declared.waits.WaitCall.{WaitCall}
use Rattle.posix.specs.declared.waits.Asked.{Asked}
use Rattle.posix.specs.declared.entry.Entry.{Entry}
use Rattle.posix.specs.declared.entry.Entry.TheVariants.{Called, Ended, Halted}
use Rattle.posix.specs.declared.process.Blocked.{Blocked}
use Rattle.posix.specs.declared.process.Report.{Report}
use Rattle.posix.specs.Common.{Process, at, changed, State, change, end_process, wait_by, wait_for, wait_with, asked_by, report}
use Rattle.posix.specs.Outcomes as outcome
use Rattle.life.specs.declared.caller.Caller.{Caller}
use Rattle.life.specs.Callers.{caller_of, process_like}
use Rattle.calls.specs.declared.outcome.Attempt.{Attempt}
use Rattle.calls.specs.declared.outcome.Attempt.TheVariants as came
use Rattle.calls.specs.Outcomes.{Comes}

abbrev pub outcome_of : State → List Entry → outcome.Outcome
outcome_of s xs = record { state = s; entries = xs }

-- two outcomes with the same state and the same entries
pub same_outcome : (s t : State) (xs ys : List Entry) → s ≡ t → xs ≡ ys → outcome_of s xs ≡ outcome_of t ys
same_outcome s t xs ys e f = ap (λ (u : State). outcome_of u xs) e ∙ ap (outcome_of t) f

-- ---- the outcome of an attempt

-- if the process has to wait, the definition blocks it in the same call, and nothing has changed
pub block_is : (s : State) (a : outcome.Attempted) (b : Blocked) (xs ys : List Entry) (n : State) → Comes s a (came.Block b) xs ys n → (a ≡ outcome.Block b) × (ys ≡ xs) × (n ≡ s)
block_is s (outcome.Block x) b xs ys n h = (ap outcome.Block (sym h.0), h.1, h.2)
block_is s a b xs ys n h = absurd h

-- if it restarts, it does so in the definition, in the same state
pub again_is : (s : State) (a : outcome.Attempted) (xs ys : List Entry) (n : State) → Comes s a came.Again xs ys n → (a ≡ outcome.Again n) × (ys ≡ xs)
again_is s (outcome.Again t) xs ys n h = (ap outcome.Again (sym h.1), h.0)
again_is s a xs ys n h = absurd h

-- a call that returns these results in t, and shows this: the code did so in b, which is the same
pub shows_is : (s t b n : State) (a : outcome.Attempted) (p : ℕ) (results : List (ℕ × ℤ)) (shown : Entry) (xs ys : List Entry) (r : Attempt) → a ≡ outcome.Done (outcome_of (outcome.finish t p results) (shown ∷ []))
    → r ≡ came.Done → n ≡ outcome.finish b p results → b ≡ t → ys ≡ xs ++ shown ∷ [] → Comes s a r xs ys n
shows_is s t b n a p results entry xs ys r is done state before shown =
    subst (λ x. Comes s x r xs ys n) (sym is)
    (subst (λ q. Comes s (outcome.Done (outcome_of (outcome.finish t p results) (entry ∷ []))) q xs ys n) (sym done)
    (shown, state ∙ ap (λ (u : State). outcome.finish u p results) before))

-- a call that returns z in t: the code returned v in b, and these are the same
pub gives_is : (s t b n : State) (a : outcome.Attempted) (p : ℕ) (call : Call) (v z : ℤ) (xs ys : List Entry) (r : Attempt) → a ≡ outcome.finish_with t p call z
    → r ≡ came.Done → n ≡ outcome.finish b p ((0, v) ∷ []) → b ≡ t → ys ≡ xs ++ Called p call v ∷ [] → v ≡ z → Comes s a r xs ys n
gives_is s t b n a p call v z xs ys r is done state before shown same =
    shows_is s t b n a p ((0, z) ∷ []) (Called p call z) xs ys r is done (state ∙ ap (λ w. outcome.finish b p ((0, w) ∷ [])) same) before (shown ∙ ap (λ w. xs ++ Called p call w ∷ []) same)

-- one change of a process after another
pub changed_then : (p : ℕ) (f g : Process → Process) → ((r : Process) → (g r).pid ≡ r.pid) → (rs : List Process) → changed p f (changed p g rs) ≡ changed p (λ r. f (g r)) rs
unfolding changed
changed_then p f g keeps [] = refl
changed_then p f g keeps (r ∷ rs) = elim (r.pid == p) as (λ b. (r.pid == p) ≡ b → at p f (cond b (g r) r) ∷ map (at p f) (map (at p g) rs) ≡ cond b (f (g r)) r ∷ map (at p (λ r. f (g r))) rs) [
  | true ↦ λ e. let mine : ((g r).pid == p) ≡ true = ap (λ n. n == p) (keeps r) ∙ e in rw mine (ap (λ qs. f (g r) ∷ qs) (changed_then p f g keeps rs))
  | false ↦ λ e. rw e (ap (λ qs. r ∷ qs) (changed_then p f g keeps rs))
] refl

-- a call that returns z, and changes its process before that
pub answers_then : (s : State) (p : ℕ) (call : Call) (z : ℤ) (g : Process → Process) → ((r : Process) → (g r).pid ≡ r.pid) → outcome.finish_call s p call (record { value = z; changes = g }) ≡ outcome.finish_with (change s p g) p call z
answers_then s p call z g keeps = ap (λ rs. outcome.Done (outcome_of (record s { processes = rs }) (Called p call z ∷ []))) (sym (changed_then p (outcome.finished ((0, z) ∷ [])) g keeps s.processes))

-- ---- the caller

-- what was read of it
pub caller_is : (o : Option Process) (me : Process) (c : Caller) → IfSome o (λ r. c ≡ caller_of r) → o ≡ Some me → c ≡ caller_of me
caller_is o me c h e = subst (λ x. IfSome x (λ r. c ≡ caller_of r)) e h

-- its wait
wait_like : (s : State) (me : Process) (call : WaitCall) → wait_by call s (process_like (caller_of me)) ≡ wait_by call s me
unfolding wait_by
wait_like s me call = refl

pub wait_of : (s : State) (o : Option Process) (me : Process) (c : Caller) (call : WaitCall) → IfSome o (λ r. c ≡ caller_of r) → o ≡ Some me → wait_by call s (process_like c) ≡ wait_by call s me
wait_of s o me c call h e = ap (λ d. wait_by call s (process_like d)) (caller_is o me c h e) ∙ wait_like s me call

-- ---- a termination

pub end_entries : (s : State) (r : Process) (status : ℕ) (b : Bool) → (r.pid == 1) ≡ b
    → (end_process s r status).entries ≡ cond b (Ended r.pid status ∷ Halted ∷ []) (Ended r.pid status ∷ [])
unfolding end_process
end_entries s r status true e = rw e refl
end_entries s r status false e = rw e refl

-- ---- a wait

-- a wait, by what it asks
pub wait_is : (s : State) (me : Process) (call : WaitCall) (read : Option Asked) → read ≡ asked_by call me → wait_by call s me ≡ wait_for s me.pid me.group call read
unfolding wait_by
wait_is s me call read asks = ap (wait_for s me.pid me.group call) (sym asks)

-- one that finds o
pub wait_finds : (s : State) (me : Process) (call : WaitCall) (read : Option Asked) (a : Asked) (finds o : Report) → read ≡ asked_by call me → read ≡ Some a
    → finds ≡ report s.processes me.pid me.group a.target a.options.0 → finds ≡ o → wait_by call s me ≡ wait_with s me.pid call a.options.0 o
wait_finds s me call read a finds o asks some is that = wait_is s me call read asks ∙ ap (wait_for s me.pid me.group call) some ∙ ap (wait_with s me.pid call a.options.0) (sym is ∙ that)
