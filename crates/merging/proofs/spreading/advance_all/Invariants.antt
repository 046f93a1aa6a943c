use Rattle.std.proofs.Common.{◌≡◌, ◌≤◌, length, map}
use Rattle.merging.specs.Merging.{AllStand, Property, nodes_tally, point}
use Rattle.merging.proofs.LevelLemmas.{advanced}
use Rattle.merging.proofs.spreading.advance_all.Given as goal

-- The nodes so far have advanced, and those that were added have one spot more.
abbrev pub invariant-loop-index : goal.invariant-loop-index
invariant-loop-index l = record {
  grown : l.index-end ≤ length l.here.nodes.items;
  stand : AllStand l.search l.place (advanced l.spots l.index l.index-end) (map point l.here.nodes.items) l.here.nodes.items;
  tally : (has : Property) → nodes_tally has l.search l.place l.here.nodes.items ≡ nodes_tally has l.search l.place l.fn.here.nodes.items;
}
