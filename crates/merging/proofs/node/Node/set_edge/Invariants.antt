use Rattle.std.proofs.Common.{◌≡◌, ℕ, ◌+◌, ◌-◌, length}
use Rattle.merging.specs.Merging.{edge_at, seen}
use Rattle.merging.proofs.node.Node.set_edge.Given as goal

-- Only edges that are not known were added.
abbrev pub invariant-loop-self : goal.invariant-loop-self
invariant-loop-self l = record {
  edges : (w : ℕ) → edge_at l.self.edges.items w ≡ edge_at l.fn.self.edges.items w;
  rest : seen l.self ≡ record (seen l.fn.self) { edges = l.self.edges.items };
}

abbrev pub decreases-loop-self : goal.decreases-loop-self
decreases-loop-self l = l.which + 1 - length l.self.edges.items
