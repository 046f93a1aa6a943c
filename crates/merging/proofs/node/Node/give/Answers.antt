use Rattle.std.proofs.Common.{◌≡◌, arith, ap, drop, length, map, ◌∙◌}
use Rattle.std.proofs.lemmas.Result.{on_ok_weaker}
use Rattle.counting.proofs.BookLemmas.{written}
use Rattle.merging.specs.Merging.{marks_after}
use Rattle.merging.proofs.node.Node.give.Goals as goal

pub returns-clause-marks : goal.returns-clause-marks
returns-clause-marks c =
    let n = c.args.self.now in
    let after = marks_after (map (λ t. t.now) c.args.texts.now) c.args.event n.kernel.state in
    on_ok_weaker c.give.result
    (λ (is : c.give.new.marks ≡ after c.as_mut_slice.result.now).
    written n.marks.len c.give.new.marks (drop (length c.give.new.marks) n.marks.items) (omega (arith, c.give.auto.marks, ap length c.as_mut_slice.ensures.value, n.marks.ok.0)) ∙ is ∙ ap after c.as_mut_slice.ensures.value)
    c.give.ensures.marks
