use Rattle.std.proofs.Common.{◌∙◌}
use Rattle.merging.proofs.NodeLemmas.{none_marked}
use Rattle.merging.proofs.node.Node.first.Goals as goal

pub returns-clause-marks : goal.returns-clause-marks
returns-clause-marks c = c.in_ok-marks.ensures.items_if_clones_equal (λ y same. same) ∙ none_marked (λ t. t.now) c.args.texts.now
