-- Sends by kill and sigqueue.
use Rattle.std.proofs.Common.{◌≡◌, ℕ, Bool, true, false, cond, ap, sym, refl, ◌∙◌, subst, Option, Some, None, List, Result, Ok, Err, ℤ, [], ◌∷◌, ◌++◌}
use Rattle.std.specs.Option.{IsSome}
use Rattle.posix.specs.declared.call.Call.{Call}
use Rattle.posix.specs.declared.entry.Entry.{Entry}
use Rattle.posix.specs.declared.errno.Errno.{Errno}
use Rattle.posix.specs.declared.process.PendingSignal.{PendingSignal}
use Rattle.posix.specs.declared.process.Sending.{Sending}
use Rattle.posix.specs.declared.process.Sending.TheVariants as found
use Rattle.posix.specs.declared.target.Target.{Target}
use Rattle.posix.specs.Common.{Process, argument, lookup, pids, State, process, targets, permitted, sending, sending_granted, queuers_among, sent, sent_among, message, number_of, signal_or_none, send, send_with}
use Rattle.posix.specs.Outcomes as outcome
use Rattle.life.specs.Machines.{with_processes}
use Rattle.life.specs.Queues.{is_sent, sent_as}
use Rattle.life.specs.declared.caller.Caller.{Caller}
use Rattle.life.specs.Callers.{caller_of, process_like}
use Rattle.calls.specs.declared.outcome.Attempt.{Attempt}
use Rattle.calls.specs.declared.outcome.Attempt.TheVariants as came
use Rattle.calls.specs.Outcomes.{Comes, value_of_sending, entry_of_sending}
use Rattle.calls.proofs.RemainLemmas.{some_signalled}

-- ---- existing processes

-- after a signal is sent to those that are selected
some_sent_among : (me : Process) (k : Option PendingSignal) (qs rs : List Process) (q : ℕ) → IsSome (lookup q rs) → IsSome (lookup q (sent_among me k qs rs))
unfolding sent_among
some_sent_among me None qs rs q h = h
some_sent_among me (Some m) qs rs q h = some_signalled m (pids (permitted me (Some m.sig) qs)) q rs h

-- after a signal is sent
some_sent : (me : Process) (to : Target) (k : Option PendingSignal) (rs : List Process) (q : ℕ) → IsSome (lookup q rs) → IsSome (lookup q (sent me to k rs))
unfolding sent
some_sent me to k rs q h = some_sent_among me k _ rs q h

-- the state after a send with this result
abbrev pub sent_in : Sending → State → Process → Target → Option PendingSignal → State
sent_in answer s me to k = with_processes s (sent_as answer me to k s.processes)

-- an existing process exists afterwards
pub there_sent : (answer : Sending) (s now : State) (me : Process) (to : Target) (k : Option PendingSignal) (p : ℕ) → now ≡ sent_in answer s me to k → IsSome (process s p) → IsSome (process now p)
there_sent answer s now me to k p state h = subst (λ (t : State). IsSome (process t p)) (sym state) (by (is_sent answer))
  where
    by : (b : Bool) → IsSome (lookup p (cond b (sent me to k s.processes) s.processes))
    by true = some_sent me to k s.processes p h
    by false = h

-- ---- a send

-- what is sent has its number
number_sent : (p : ℕ) (value : ℤ) (sig : Option ℕ) → number_of (message p value sig) ≡ sig
number_sent p value None = refl
number_sent p value (Some n) = refl

pub number_is : (p : ℕ) (value : ℤ) (sig : Option ℕ) (k : Option PendingSignal) → k ≡ message p value sig → number_of k ≡ sig
number_is p value sig k is = ap number_of is ∙ number_sent p value sig

-- one that names no signal
pub send_unknown : (granted : Bool) (s : State) (me : Process) (call : Call) (to : Target) (value word : ℤ) (named : Result (Option ℕ) Errno) (why : Errno) → named ≡ signal_or_none word → named ≡ Err why → send granted s me call to value (signal_or_none word) ≡ outcome.refused s me.pid call why
send_unknown granted s me call to value word named why known none = ap (send granted s me call to value) (sym known ∙ none)

-- one of this signal with this result
send_answers : (granted : Bool) (s : State) (me : Process) (call : Call) (to : Target) (value word : ℤ) (named : Result (Option ℕ) Errno) (sig : Option ℕ) (k : Option PendingSignal) (answer : Sending) → named ≡ signal_or_none word → named ≡ Ok sig → k ≡ message me.pid value sig
    → answer ≡ sending_granted granted me to (number_of k) s.processes → send granted s me call to value (signal_or_none word) ≡ send_with s me call to k answer
send_answers granted s me call to value word named sig k answer known ok is answers =
    ap (send granted s me call to value) (sym known ∙ ok)
    ∙ ap (λ m. send_with s me call to m (sending_granted granted me to sig s.processes)) (sym is)
    ∙ ap (send_with s me call to k) (ap (λ n. sending_granted granted me to n s.processes) (sym (number_is me.pid value sig k is)) ∙ sym answers)

-- the state after its call
abbrev finished_as : Sending → State → Process → Target → Option PendingSignal → State
finished_as answer s me to k = outcome.finish (sent_in answer s me to k) me.pid ((0, value_of_sending answer) ∷ [])

-- its call is finished and shown by the result
answered_as : (answer : Sending) (s new : State) (me : Process) (call : Call) (to : Target) (k : Option PendingSignal) (xs ys : List Entry) → new ≡ finished_as answer s me to k → ys ≡ xs ++ entry_of_sending me.pid call answer ∷ [] → Comes s (send_with s me call to k answer) came.Done xs ys new
answered_as found.NoMemory s new me call to k xs ys state shown = (shown, state)
answered_as answer s new me call to k xs ys state shown = (shown, state)

pub send_comes : (granted : Bool) (s now new : State) (me : Process) (call : Call) (to : Target) (value word z : ℤ) (named : Result (Option ℕ) Errno) (sig : Option ℕ) (k : Option PendingSignal) (answer : Sending) (xs ys : List Entry) (r : Attempt) → named ≡ signal_or_none word → named ≡ Ok sig → k ≡ message me.pid value sig
    → answer ≡ sending_granted granted me to (number_of k) s.processes → now ≡ sent_in answer s me to k → z ≡ value_of_sending answer → r ≡ came.Done → new ≡ outcome.finish now me.pid ((0, z) ∷ []) → ys ≡ xs ++ entry_of_sending me.pid call answer ∷ []
    → Comes s (send granted s me call to value (signal_or_none word)) r xs ys new
send_comes granted s now new me call to value word z named sig k answer xs ys r known ok is answers sent given done state shown =
    let last : new ≡ finished_as answer s me to k = state ∙ ap (λ v. outcome.finish now me.pid ((0, v) ∷ [])) given ∙ ap (λ (t : State). outcome.finish t me.pid ((0, value_of_sending answer) ∷ [])) sent in
    rw (send_answers granted s me call to value word named sig k answer known ok is answers, done) (answered_as answer s new me call to k xs ys last shown)

-- ---- its caller

-- a send takes of its sender what a caller has of it
send_like : (granted : Bool) (s : State) (me : Process) (call : Call) (to : Target) (value : ℤ) → send granted s (process_like (caller_of me)) call to value (signal_or_none (argument me 2)) ≡ send granted s me call to value (signal_or_none (argument me 2))
unfolding sending targets permitted sent sent_among sending_granted queuers_among
send_like granted s me call to value = refl

-- a send by a caller that was looked at has the outcome of one by its process: the caller names the target and the
-- value
pub sends_as : (granted : Bool) (s mid new : State) (me : Process) (d : Caller) (call : Call) (f : Caller → Target) (h : Caller → ℤ) (to : Target) (value : ℤ) (r : Attempt) (xs ys : List Entry) → mid ≡ s → d ≡ caller_of me → to ≡ f d → value ≡ h d
    → Comes mid (send granted mid (process_like d) call to value (signal_or_none d.r2)) r xs ys new → Comes s (send granted s me call (f (caller_of me)) (h (caller_of me)) (signal_or_none (argument me 2))) r xs ys new
sends_as granted s mid new me d call f h to value r xs ys same is target given came =
    let all = ap (λ (w : Target). send granted mid (process_like d) call w value (signal_or_none d.r2)) target
    ∙ ap (λ (v : ℤ). send granted mid (process_like d) call (f d) v (signal_or_none d.r2)) given
    ∙ ap (λ (k : Caller). send granted mid (process_like k) call (f k) (h k) (signal_or_none k.r2)) is
    ∙ send_like granted mid me call (f (caller_of me)) (h (caller_of me)) in
    subst (λ (t : State). Comes t (send granted t me call (f (caller_of me)) (h (caller_of me)) (signal_or_none (argument me 2))) r xs ys new) same (subst (λ a. Comes mid a r xs ys new) all came)
