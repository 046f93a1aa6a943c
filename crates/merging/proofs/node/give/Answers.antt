use Rattle.std.proofs.Common.{ap, map, ◌∙◌, ◌+◌}
use Rattle.counting.specs.Texts.{marked}
use Rattle.merging.proofs.NodeLemmas.{one_added, one_marked}
use Rattle.merging.proofs.node.give.Goals as goal

pub returns : goal.returns
returns c =
    let k = c.args.kernel.now in
    let new = c.run_one.new.kernel.state in
    let e = c.in_ok-run_one.ensures in
    let lines = c.run_one.new.lines.items in
    let texts = map (λ t. t.now) c.args.texts.now in
    let marks = c.args.marks.now in
    record {
      state = one_added (k.events + 1) k.state new c.args.event c.clear.new.self.items lines e.adds;
      events = e.events;
      marks = c.mark.ensures.marks ∙ ap (λ ls. marked texts ls marks) c.as_slice.ensures.value ∙ one_marked (k.events + 1) k.state new c.args.event c.clear.new.self.items lines texts marks c.clear.ensures.items e.adds;
      regular = e.regular;
      settled = e.settled;
    }
