use Rattle.merging.specs.Merging.{AreSameNodes, IsSameNode}
use Rattle.merging.proofs.layer.Layer.find.Given as goal

-- Nothing changed except counts of reads.
abbrev pub invariant-loop-alike : goal.invariant-loop-alike
invariant-loop-alike l = record {
  nodes : AreSameNodes l.fn.self.nodes.items l.self.nodes.items;
  node : IsSameNode l.fn.node l.node;
}
