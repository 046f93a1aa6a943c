use Rattle.std.proofs.Common.{◌≡◌, length}
use Rattle.merging.specs.Merging.{with_slots}
use Rattle.merging.proofs.merging.count_slots.Given as goal

-- These beginnings are left, and with them the book counts all.
abbrev pub invariant-loop-slot : goal.invariant-loop-slot
invariant-loop-slot l = with_slots l.ending l.marks l.begun l.book ≡ with_slots l.ending l.marks l.fn.begun l.initial.book

abbrev pub decreases-loop-slot : goal.decreases-loop-slot
decreases-loop-slot l = length l.begun
