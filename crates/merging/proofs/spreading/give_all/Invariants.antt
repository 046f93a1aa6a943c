use Rattle.std.proofs.Common.{◌≡◌, ◌+◌, List}
use Rattle.counting.specs.Tallies.{both}
use Rattle.merging.specs.Merging.{AllStand, AreNodes, NonePassed, Point, Property, from_spots, most_of, nodes_tally}
use Rattle.merging.proofs.spreading.give_all.Given as goal

-- The nodes that are left and those of the next layer have all schedules.
abbrev pub invariant-loop-node : goal.invariant-loop-node
invariant-loop-node l = record {
  nodes : (points : List Point) × AllStand l.search l.place (from_spots (most_of l.search + 1)) points l.nodes.items;
  next : AreNodes l.search (l.place + 1) 0 l.next.nodes.items;
  passed : NonePassed l.next.nodes.items;
  tally : (has : Property) → both (nodes_tally has l.search (l.place + 1) l.next.nodes.items) (nodes_tally has l.search l.place l.nodes.items) ≡ nodes_tally has l.search l.place l.fn.nodes.items;
}

abbrev pub decreases-loop-node : goal.decreases-loop-node
decreases-loop-node l = goal.left-loop-node l
