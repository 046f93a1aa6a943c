use Rattle.std.proofs.Common.{◌∙◌, ◌+◌, ap, arith, length, subst, sym, take}
use Rattle.warning.specs.Targets.{AreTold}
use Rattle.warning.proofs.TargetLemmas.{never_past, told_more}
use Rattle.warning.proofs.targets.Targets.new.Goals.{in-Some, in_default}
use Rattle.warning.proofs.targets.Targets.new.Goals as goal

pub loop-place-preserved : goal.loop-place-preserved
loop-place-preserved c =
    let program = c.args.program.now.instructions in
    let k = c.loop-place.place in
    let old = c.loop-place.targets.are_targets.items in
    let was = c.loop-place.invariant in
    elim c.match-get.branch [
      | in-Some w ↦ record {
        len = ap (λ t. length t.are_targets.items) w.targets-is ∙ (w.add.ensures.len ∙ was.len);
        told = subst (λ t. AreTold program (take (k + 1) program) t.are_targets.items) (sym w.targets-is)
            (told_more program k w.in-Some.instr old w.add.new.self.are_targets.items (sym c.get.ensures ∙ w.in-Some.is) was.len was.told w.add.ensures.told);
      }
      | in_default w ↦ absurd (never_past program k (omega (arith, c.loop-place-test.true, c.len-place-end.ensures.value)) (sym c.get.ensures ∙ w.in_default.is))
    ]
