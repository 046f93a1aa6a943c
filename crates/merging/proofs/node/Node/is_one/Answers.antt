use Rattle.std.proofs.Common.{sym, true≢false, ◌∙◌}
use Rattle.std.specs.Cmp.{booleans_Decides, unsigned_Decides}
use Rattle.std.proofs.lemmas.Slice.Eq.{slice_eq-Decides}
use Rattle.merging.proofs.node.Node.is_one.Goals.{else-eq, then-eq}
use Rattle.merging.proofs.node.Node.is_one.Goals as goal

pub returns-then-eq-2-clause-one : goal.returns-then-eq-2-clause-one
returns-then-eq-2-clause-one c = λ same. elim c.if-eq.branch [
  | then-eq w ↦
      let left = (slice_eq-Decides unsigned_Decides c.as_slice.result.now c.as_slice-2.result.now c.eq.result c.eq.ensures).0 w.if-eq.true in
      let marks = (slice_eq-Decides booleans_Decides w.as_slice-then-eq.result.now w.as_slice-then-eq-2.result.now w.eq-then-eq.result w.eq-then-eq.ensures).0 (sym w.value-is ∙ c.if-eq-2.true) in
      record {
        state = c.are_one.ensures.one same;
        left = sym c.as_slice.ensures.value ∙ left ∙ c.as_slice-2.ensures.value;
        marks = sym w.as_slice-then-eq.ensures.value ∙ marks ∙ w.as_slice-then-eq-2.ensures.value;
      }
  | else-eq w ↦ absurd (true≢false (sym (sym w.value-is ∙ c.if-eq-2.true) ∙ w.if-eq.false))
]
