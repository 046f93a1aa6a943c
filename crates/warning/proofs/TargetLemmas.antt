-- The targets of jumps after one more instruction was added.
use Rattle.std.proofs.Common.{◌≡◌, ◌∙◌, ◌+◌, ◌<◌, ◌||◌, ⊎_elim, ℕ, Bool, List, Some, None, length, take, slice_get, ap, subst, sym, arith}
use Rattle.std.proofs.lemmas.List.Folds.{list_any_more}
use Rattle.std.proofs.lemmas.Option.{get_or_from_slice_get, slice_get_cases, slice_get_within}
use Rattle.posix.specs.declared.instr.Instr.{Instr}
use Rattle.warning.specs.Targets.{AreTold, is_target, jumps_to, told_of}

pub told_more : (program : List Instr) (k : ℕ) (instr : Instr) (old new : List Bool) → slice_get program k ≡ Some instr → length old ≡ length program
    → AreTold program (take k program) old → ((p : ℕ) → p < length old → told_of new p ≡ (told_of old p || jumps_to p instr)) → AreTold program (take (k + 1) program) new
told_more program k instr old new there same told adds = λ p within.
    adds p (subst (λ (n : ℕ). p < n) (sym same) within)
    ∙ (ap (λ (b : Bool). b || jumps_to p instr) (told p within)
    ∙ (ap (λ (i : Instr). is_target (take k program) p || jumps_to p i) (sym (get_or_from_slice_get program k instr instr there))
    ∙ sym (list_any_more (jumps_to p) program k instr (slice_get_within program k instr there))))

-- each place of a program has an instruction
pub never_past : (program : List Instr) (k : ℕ) → k < length program → slice_get program k ≡ None → ⊥
never_past program k within none = ⊎_elim (λ here. cc (here.2, none)) (λ past. omega (arith, past.0, within)) (slice_get_cases program k).1
