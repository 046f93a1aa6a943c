-- Proofs of what the exit statuses mean.
use Rattle.std.proofs.Common.{◌≡◌, Some, None, List, ℕ, inl, inr, Err}
use Rattle.inputs.proofs.MeaningLemmas.{means_cut_short}
use Rattle.inputs.specs.Failures.{status_of}
use Rattle.inputs.specs.Reads.{Contents}
use Rattle.inputs.specs.declared.failure.FileFailure.{FileFailure}
use Rattle.inputs.specs.declared.failure.FileFailure.TheVariants.{Usage, Unread, Memory, Write}
use Rattle.trace.specs.Sinks.{Seen}
use Rattle.showing.specs.Comparing.{IsTraceBeside, Means, Named}
use Rattle.showing.specs.Explanations.{Explains}

-- explaining a trace failed after a beginning of the text was put
pub means_failed : {S : Type 0} (contents : Contents) (names : Named) (old new : S) (before after : Seen) (trace : List ℕ) (why : FileFailure) (status : ℕ) → status ≡ status_of why
    → IsTraceBeside contents names trace None → Explains before after trace (Err why) → Means contents names old new before after status
means_failed contents names old new before after trace Usage status is beside h = absurd h
means_failed contents names old new before after trace (Unread other) status is beside h = absurd h
means_failed contents names old new before after trace Memory status is beside h = means_cut_short _ _ _ (Some names) old new status is (inr (trace, beside, (h.0, h.1, inr h.2)))
means_failed contents names old new before after trace Write status is beside h = means_cut_short _ _ _ (Some names) old new status is (inr (trace, beside, (h.0, h.1, inl h.2)))
