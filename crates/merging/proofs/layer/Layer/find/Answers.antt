use Rattle.std.proofs.Common.{◌∙◌}
use Rattle.merging.proofs.LayerLemmas.{worlds_still}
use Rattle.merging.proofs.layer.Layer.find.Goals as goal

pub find_at-requires : goal.find_at-requires
find_at-requires c =
    let was = c.loop-alike.invariant in
    worlds_still c.args.self.now.nodes.items c.loop-alike.self.nodes.items c.args.node.now c.loop-alike.node was.nodes was.node c.requires

pub returns-in-Some-clause-nodes : goal.returns-in-Some-clause-nodes
returns-in-Some-clause-nodes c = c.find_at.ensures.nodes ∙ c.loop-alike.invariant.nodes

pub loop-alike-preserved : goal.loop-alike-preserved
loop-alike-preserved c =
    let was = c.loop-alike.invariant in
    record { nodes = c.find_at.ensures.nodes ∙ was.nodes; node = c.find_at.ensures.node ∙ was.node }
