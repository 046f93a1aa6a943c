use Rattle.std.proofs.Common.{◌≡◌}
use Rattle.merging.specs.Merging.{AreNodes, Property, nodes_tally}
use Rattle.merging.proofs.spreading.insert_all.Given as goal

-- All beginnings that can go on have this many spots or more.
abbrev pub invariant-loop-spots : goal.invariant-loop-spots
invariant-loop-spots l = record {
  nodes : AreNodes l.search l.place l.spots l.here.nodes.items;
  tally : (has : Property) → nodes_tally has l.search l.place l.here.nodes.items ≡ nodes_tally has l.search l.place l.fn.here.nodes.items;
}
