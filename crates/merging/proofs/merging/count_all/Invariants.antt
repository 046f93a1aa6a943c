use Rattle.std.proofs.Common.{◌≡◌, map}
use Rattle.merging.specs.Merging.{AllStand, counted_all, from_spots, point, texts_of}
use Rattle.merging.proofs.merging.count_all.Given as goal

-- These nodes are left, and with them the book counts all.
abbrev pub invariant-loop-node : goal.invariant-loop-node
invariant-loop-node l =
    let s = l.search in
    record {
      nodes : AllStand s s.family.now.upto (from_spots 0) (map point l.initial.nodes.items) l.nodes.items;
      all : counted_all (texts_of s) l.events l.nodes.items l.book ≡ counted_all (texts_of s) l.events l.initial.nodes.items l.initial.book;
    }

abbrev pub decreases-loop-node : goal.decreases-loop-node
decreases-loop-node l = goal.left-loop-node l
