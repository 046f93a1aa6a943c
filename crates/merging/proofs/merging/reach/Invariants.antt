use Rattle.std.proofs.Common.{◌≡◌}
use Rattle.merging.specs.Merging.{AreNodes, NonePassed, Property, nodes_tally}
use Rattle.merging.proofs.merging.reach.Given as goal

-- The tally of the nodes at this place is that of the first nodes.
abbrev pub invariant-loop-place : goal.invariant-loop-place
invariant-loop-place g l =
    let s = l.search in
    record {
      nodes : AreNodes s l.place 0 l.layer.nodes.items;
      passed : NonePassed l.layer.nodes.items;
      tally : (has : Property) → nodes_tally has s l.place l.layer.nodes.items ≡ nodes_tally has s 0 l.fn.first.nodes.items;
    }
