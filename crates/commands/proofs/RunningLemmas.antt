-- How runs of texts end.
use Rattle.std.proofs.Common.{◌≡◌, ◌∙◌, ℕ, Bool, List, Option, Result, refl, sym, subst, inl, inr, None, Some, Ok, Err, arith}
use Rattle.std.specs.Prelude.{IfSome, OnErr}
use Rattle.audit.specs.Texts.{IsFirstFault}
use Rattle.audit.specs.declared.texts.TraceFault.{TraceFault}
use Rattle.kernel.specs.Headline.{Fails}
use Rattle.kernel.specs.declared.texts.RunError.{RunError}
use Rattle.kernel.specs.declared.texts.RunError.TheVariants as error
use Rattle.trace.specs.Sinks.{BreaksOff, Seen}
use Rattle.inputs.specs.Failures.{MeansOf}
use Rattle.inputs.proofs.MeaningLemmas.{means_cut_short, means_done}
use Rattle.commands.specs.Running.{EndsAudit, EndsRun, MeansOfAudit, MeansOfRun, answer_of, faulty_answer}
use Rattle.commands.specs.declared.running.Failure.{Failure}
use Rattle.commands.specs.declared.running.Failure.TheVariants as failure

-- the failure of a run of two texts
pub run_fails : {S : Type 0} (world events : List ℕ) (old new : S) (before after : Seen) (why : RunError)
    → Fails world events old new before after why
    → EndsRun (λ w e. (w ≡ world) × (e ≡ events)) old new before after (Err (failure.Run why))
run_fails world events old new before after (error.World fault) h = ((world, events, (refl, refl), (fault, h.1, inl h.0)), h.2)
run_fails world events old new before after (error.Events fault) h = ((world, events, (refl, refl), (fault, h.1, inr h.0)), h.2)
run_fails world events old new before after error.Memory h = h
run_fails world events old new before after error.Write h = (world, events, (refl, refl), h)

-- ---- how an audit ends

-- a statement about all cases holds for an error
pub any_error : {T E P : Type 0} (r : Result T E) → P → OnErr r P
any_error (Ok done) p = tt
any_error (Err why) p = p

-- a put of the answer to a fault failed
pub ends_cut : {S : Type 0} (tells_law : Bool) (trace : List ℕ) (old new : S) (before after : Seen) (why : TraceFault) (r : Result (Unit {0}) Failure) → r ≡ Err (failure.Run error.Write)
    → IsFirstFault trace why → BreaksOff before after (faulty_answer tells_law trace why) → EndsAudit tells_law (λ t. t ≡ trace) old new before after r
ends_cut tells_law trace old new before after why r is first cut =
    subst (λ (e : Result (Unit {0}) Failure). EndsAudit tells_law (λ t. t ≡ trace) old new before after e) (sym is) (trace, refl, inr (why, first, cut))

pub same_known : (known : Option (List ℕ)) (a b : List ℕ) → a ≡ b → IfSome known (λ k. b ≡ k) → IfSome known (λ k. a ≡ k)
same_known None a b e h = tt
same_known (Some k) a b e h = e ∙ h

-- an audit of a trace with P is one of a trace with Q, if P implies Q
pub audit_weaker : {S : Type 0} (tells_law : Bool) (P Q : List ℕ → Type 0) (old new : S) (before after : Seen) (done : Result (Unit {0}) Failure) → ((t : List ℕ) → P t → Q t)
    → EndsAudit tells_law P old new before after done → EndsAudit tells_law Q old new before after done
audit_weaker tells_law P Q old new before after (Ok done) f h = (h.0, f h.0 h.1, h.2)
audit_weaker tells_law P Q old new before after (Err failure.Faulty) f h = (h.0, f h.0 h.1, h.2)
audit_weaker tells_law P Q old new before after (Err (failure.Unread why)) f h = h
audit_weaker tells_law P Q old new before after (Err (failure.Run (error.World fault))) f h = absurd h
audit_weaker tells_law P Q old new before after (Err (failure.Run (error.Events fault))) f h = absurd h
audit_weaker tells_law P Q old new before after (Err (failure.Run error.Memory)) f h = h
audit_weaker tells_law P Q old new before after (Err (failure.Run error.Write)) f h = (h.0, f h.0 h.1, h.2)

-- ---- what an exit status means

-- the status of a rejected text
means_refused : {A S : Type 0} (Done Refused IsBegun : Type 0) (asked : Option A) (old new : S) → Refused → MeansOf Done Refused IsBegun asked old new 1
means_refused Done Refused IsBegun asked old new h =
    record { done = λ e. absurd (omega (arith, e)); refused = λ e. h; other_words = λ e. absurd (omega (arith, e)); cut_short = λ e. absurd (omega (arith, e)) }

-- the status of a run, however it ends
pub run_means : {A S : Type 0} (Asks : List ℕ → List ℕ → Type 0) (asked : Option A) (old new : S) (before after : Seen) (done : Result (Unit {0}) Failure)
    → EndsRun Asks old new before after done → MeansOfRun Asks asked old new before after (answer_of done)
run_means Asks asked old new before after (Ok done) h = means_done _ _ _ asked old new h
run_means Asks asked old new before after (Err failure.Faulty) h = absurd h
run_means Asks asked old new before after (Err (failure.Unread why)) h = means_cut_short _ _ _ asked old new 3 refl (inl h)
run_means Asks asked old new before after (Err (failure.Run (error.World fault))) h = means_refused _ _ _ asked old new h
run_means Asks asked old new before after (Err (failure.Run (error.Events fault))) h = means_refused _ _ _ asked old new h
run_means Asks asked old new before after (Err (failure.Run error.Memory)) h = means_cut_short _ _ _ asked old new 3 refl (inl h)
run_means Asks asked old new before after (Err (failure.Run error.Write)) h = means_cut_short _ _ _ asked old new 3 refl (inr h)

-- the status of an audit
pub audit_means : {A S : Type 0} (tells_law : Bool) (Audits : List ℕ → Type 0) (asked : Option A) (old new : S) (before after : Seen) (done : Result (Unit {0}) Failure)
    → EndsAudit tells_law Audits old new before after done → MeansOfAudit tells_law Audits asked old new before after (answer_of done)
audit_means tells_law Audits asked old new before after (Ok done) h = means_done _ _ _ asked old new h
audit_means tells_law Audits asked old new before after (Err failure.Faulty) h = means_refused _ _ _ asked old new h
audit_means tells_law Audits asked old new before after (Err (failure.Unread why)) h = means_cut_short _ _ _ asked old new 3 refl (inl h)
audit_means tells_law Audits asked old new before after (Err (failure.Run (error.World fault))) h = absurd h
audit_means tells_law Audits asked old new before after (Err (failure.Run (error.Events fault))) h = absurd h
audit_means tells_law Audits asked old new before after (Err (failure.Run error.Memory)) h = means_cut_short _ _ _ asked old new 3 refl (inl h)
audit_means tells_law Audits asked old new before after (Err (failure.Run error.Write)) h = means_cut_short _ _ _ asked old new 3 refl (inr h)
