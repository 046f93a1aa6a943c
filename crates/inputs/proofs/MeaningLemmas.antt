-- What an exit status means.
use Rattle.std.proofs.Common.{◌≡◌, ◌⊎◌, ℕ, Option, ap, arith, inl, inr}
use Rattle.inputs.specs.Failures.{MeansOf}

-- a text of which nothing or a prefix was written
pub means_cut_short : {A S : Type 0} (Done Refused IsBegun : Type 0) (asked : Option A) (old new : S) (status : ℕ) → status ≡ 3 → (new ≡ old) ⊎ IsBegun → MeansOf Done Refused IsBegun asked old new status
means_cut_short Done Refused IsBegun asked old new status is h =
    record { done = λ e. absurd (omega (arith, e, is)); refused = λ e. absurd (omega (arith, e, is)); other_words = λ e. absurd (omega (arith, e, is)); cut_short = λ e. h }

-- a text that was written
pub means_done : {A S : Type 0} (Done Refused IsBegun : Type 0) (asked : Option A) (old new : S) → Done → MeansOf Done Refused IsBegun asked old new 0
means_done Done Refused IsBegun asked old new h =
    record { done = λ e. h; refused = λ e. absurd (omega (arith, e)); other_words = λ e. absurd (omega (arith, e)); cut_short = λ e. absurd (omega (arith, e)) }

-- What a status means for an output, it also means for a view of the output.
pub means_along : {A S T : Type 0} (f : S → T) (Done Refused Then IsBegun : Type 0) (asked : Option A) (old new : S) (status : ℕ) → (Refused → Then)
    → MeansOf Done Refused IsBegun asked old new status → MeansOf Done Then IsBegun asked (f old) (f new) status
means_along f Done Refused Then IsBegun asked old new status refused h = record {
  done = h.done;
  refused = λ e. refused (h.refused e);
  other_words = λ e. let r = h.other_words e in (r.0, ap f r.1);
  cut_short = λ e. elim (h.cut_short e) [ inl same ↦ inl (ap f same) | inr r ↦ inr r ];
}
