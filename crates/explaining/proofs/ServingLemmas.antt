-- Proofs of what the exit statuses mean.
use Rattle.std.proofs.Common.{◌≡◌, Some, List, ℕ, refl, inl, inr, Result, Ok, Err}
use Rattle.std.specs.Prelude.{IfSome}
use Rattle.inputs.proofs.MeaningLemmas.{means_cut_short, means_done}
use Rattle.inputs.specs.Reads.{Contents, Text}
use Rattle.inputs.specs.declared.failure.FileFailure.{FileFailure}
use Rattle.inputs.specs.declared.failure.FileFailure.TheVariants.{Usage, Unread, Memory, Write}
use Rattle.trace.specs.Sinks.{Seen}
use Rattle.showing.specs.Explanations.{Explains}
use Rattle.explaining.specs.Serving.{Means, answer_of}
use Rattle.explaining.specs.Words.{OfTrace}

pub means_explained : {S : Type 0} (contents : Contents) (name : Text) (old new : S) (before after : Seen) (trace : List ℕ) (r : Result (Unit {0}) FileFailure)
    → IfSome (contents name) (λ known. trace ≡ known) → Explains before after trace r → Means contents (Some (OfTrace name)) old new before after (answer_of r)
means_explained contents name old new before after trace (Ok done) is h = means_done _ _ _ (Some (OfTrace name)) old new (trace, is, h)
means_explained contents name old new before after trace (Err Usage) is h = absurd h
means_explained contents name old new before after trace (Err (Unread other)) is h = absurd h
means_explained contents name old new before after trace (Err Memory) is h = means_cut_short _ _ _ (Some (OfTrace name)) old new 3 refl (inr (trace, is, (h.0, h.1, inr h.2)))
means_explained contents name old new before after trace (Err Write) is h = means_cut_short _ _ _ (Some (OfTrace name)) old new 3 refl (inr (trace, is, (h.0, h.1, inl h.2)))
