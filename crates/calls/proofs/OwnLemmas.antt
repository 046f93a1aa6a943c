-- Calls that change only their process, by the own part of it that is lent.
use Rattle.std.proofs.Common.{◌≡◌, ℕ, true, Some, refl, ap, sym, subst, ◌∙◌, List, [], ◌∷◌, ℤ, Bool, false, pos, ◌++◌, Result, Ok, Err, OnOk, OnErr, IfErr}
use Rattle.std.specs.Option.{IsSome, IfSome}
use Rattle.posix.specs.declared.call.Call.{Call}
use Rattle.posix.specs.declared.entry.Entry.{Entry}
use Rattle.posix.specs.Common.{Process, Credentials, Signals, argument, attempt, State, process, change, IsRegular, IsPlaced, action, set_action, signal_in, give_credentials, set_credentials, is_question, are_flags, action_in, sigaction_with, sigaction}
use Rattle.posix.specs.Outcomes as outcome
use Rattle.posix.proofs.TableLemmas.{pid_looked}
use Rattle.proctable.specs.declared.own_part.OwnPart.{OwnPart}
use Rattle.proctable.specs.Records.{own_of, give_own}
use Rattle.life.proofs.LoanLemmas.{was_written, own_is}
use Rattle.calls.proofs.ChosenLemmas.{changed_there}
use Rattle.calls.specs.declared.outcome.Attempt.TheVariants as came
use Rattle.calls.specs.Outcomes.{Comes, Answers, with_own, Replies, RepliesTo, value_of}
use Rattle.posix.proofs.ReportLemmas.{some_changed}
use Rattle.posix.specs.declared.errno.Errno.{Errno}
use Rattle.posix.specs.declared.errno.Errno.TheVariants.{EINVAL}
use Rattle.std.specs.Int.{cast_unsigned, w64}
use Rattle.posix.specs.declared.entry.Entry.TheVariants.{Called}

-- the process in the words of what was lent of it
pub own_process : (s : State) (p : ℕ) (o : OwnPart) (me : Process) → IfSome (process s p) (λ r. o ≡ own_of r) → process s p ≡ Some me → with_own p o me ≡ me
own_process s p o me h e = ap (λ k. record (give_own o me) { pid = k }) (sym (pid_looked p s.processes me e)) ∙ ap (λ w. give_own w me) (own_is s p o me h e)

-- it is there
pub own_there : (s : State) (p : ℕ) (o : OwnPart) (me : Process) → IfSome (process s p) (λ r. o ≡ own_of r) → process s p ≡ Some me → process s p ≡ Some (with_own p o me)
own_there s p o me h e = e ∙ ap Some (sym (own_process s p o me h e))

-- what holds of it there holds of it
pub of_own : (P : Process → Type 0) (s : State) (p : ℕ) (o : OwnPart) (me : Process) → IfSome (process s p) (λ r. o ≡ own_of r) → process s p ≡ Some me → P (with_own p o me) → P me
of_own P s p o me h e x = subst P (own_process s p o me h e) x

-- an existing process exists after a loan
pub there_lent : (s : State) (p : ℕ) (w : OwnPart) → IsSome (process s p) → IsSome (process (change s p (give_own w)) p)
there_lent s p w h = some_changed p p (give_own w) (λ r. refl) s.processes h

-- and one that is no zombie still is none
pub placed_lent : (s : State) (p : ℕ) (w : OwnPart) → IsPlaced s.processes p → IsPlaced (change s p (give_own w)).processes p
placed_lent s p w h = record { what = give_own w h.what; found = changed_there p (give_own w) (λ r. refl) s.processes h.what h.found; living = h.living }

-- a call that was completed through a loan
pub answered : (s : State) (p : ℕ) (o w : OwnPart) (me : Process) (call : Call) (xs ys : List Entry) → IsRegular s → IfSome (process s p) (λ r. o ≡ own_of r) → process s p ≡ Some me
    → Answers (with_own p o me) call o w xs ys → Comes s (attempt true s me call) came.Done xs ys (change s p (give_own w))
answered s p o w me call xs ys regular lent e a =
    of_own (λ x. Comes s (attempt true s x call) came.Done xs ys (change s p (give_own w))) s p o me lent e
    (subst (λ t. Comes s t came.Done xs ys (change s p (give_own w))) (sym (a.attempts true s))
    (a.shown, was_written s p o w (λ r. outcome.finished ((0, a.reply.value) ∷ []) (a.reply.changes r)) regular lent a.left))

-- ---- replies

abbrev pub IsAnsweredWith : Process → Call → outcome.Reply → Type 0
IsAnsweredWith me call reply = (granted : Bool) (s : State) → attempt granted s me call ≡ outcome.finish_call s me.pid call reply

-- a call that returns a value, and changes nothing else
pub gives_plain : (me : Process) (call : Call) (o : OwnPart) (v z : ℤ) → v ≡ z → IsAnsweredWith me call (outcome.plain z) → RepliesTo me call v o o
gives_plain me call o v z is has = record { reply = outcome.plain z; attempts = has; replies = record { given = is; changed = λ r. refl } }

-- a call whose reply another function made
pub gives_reply : (me : Process) (call : Call) (o w : OwnPart) (v z : ℤ) (reply : outcome.Reply) → v ≡ z → Replies reply z o w → IsAnsweredWith me call reply → RepliesTo me call v o w
gives_reply me call o w v z reply is replies has = record { reply = reply; attempts = has; replies = record { given = is ∙ replies.given; changed = replies.changed } }

-- a call that sets ids
sets : (o : OwnPart) (c : Credentials) (done : Result (Unit {0}) Errno) (new : Result Credentials Errno) → OnOk done (new ≡ Ok c) → IfErr done (λ why. new ≡ Err why) → OnErr done (c ≡ o.creds)
    → Replies (set_credentials new) (value_of done) o (record o { creds = c })
unfolding give_credentials
sets o c (Ok x) new ok err same = subst (λ n. Replies (set_credentials n) (pos 0) o (record o { creds = c })) (sym ok) (record { given = refl; changed = λ r. refl })
sets o c (Err why) new ok err same =
    subst (λ n. Replies (set_credentials n) (outcome.refusal why) o (record o { creds = c })) (sym err)
    (subst (λ a. Replies (outcome.refusing why) (outcome.refusal why) o (record o { creds = a })) (sym same) (record { given = refl; changed = λ r. refl }))

pub gives_ids : (me : Process) (call : Call) (o : OwnPart) (c : Credentials) (v : ℤ) (done : Result (Unit {0}) Errno) (new is : Result Credentials Errno) → v ≡ value_of done → new ≡ is
    → OnOk done (new ≡ Ok c) → IfErr done (λ why. new ≡ Err why) → OnErr done (c ≡ o.creds) → IsAnsweredWith me call (set_credentials is) → RepliesTo me call v o (record o { creds = c })
gives_ids me call o c v done new is value eq ok err same has =
    gives_reply me call o (record o { creds = c }) v (value_of done) (set_credentials is) value (subst (λ n. Replies (set_credentials n) (value_of done) o (record o { creds = c })) eq (sets o c done new ok err same)) has

-- a reply that was made
pub answers_reply : (me : Process) (call : Call) (o a w : OwnPart) (v x : ℤ) (before after : List Entry) → RepliesTo me call v o a → x ≡ v → ((r : Process) → give_own w r ≡ outcome.finished ((0, x) ∷ []) (give_own a r))
    → after ≡ before ++ Called me.pid call x ∷ [] → Answers me call o w before after
answers_reply me call o a w v x before after h same left shown = record {
  reply = h.reply;
  attempts = h.attempts;
  left = λ r. left r ∙ ap (λ z. outcome.finished ((0, z) ∷ []) (give_own a r)) (same ∙ h.replies.given) ∙ ap (outcome.finished ((0, h.reply.value) ∷ [])) (h.replies.changed r);
  shown = shown ∙ ap (λ z. before ++ Called me.pid call z ∷ []) (same ∙ h.replies.given);
}

-- ---- a sigaction

-- one with an unknown flag
pub sigaction_unflagged : (me : Process) (n : ℕ) → signal_in (argument me 1) ≡ Some n → is_question (argument me 2) ≡ false → are_flags (cast_unsigned w64 (argument me 4)) ≡ false
    → sigaction me ≡ outcome.refusing EINVAL
unfolding sigaction
sigaction_unflagged me n some question flags = rw (some, question, flags) refl

-- one that sets the action
pub sigaction_sets : (me : Process) (n : ℕ) (w : Result Signals Errno) → signal_in (argument me 1) ≡ Some n → is_question (argument me 2) ≡ false → are_flags (cast_unsigned w64 (argument me 4)) ≡ true
    → set_action n (action_in me) me.signals ≡ w → sigaction me ≡ sigaction_with (action me.signals n) w
unfolding sigaction
sigaction_sets me n w some question flags sets = rw (some, question, flags, sets) refl
