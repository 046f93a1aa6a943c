use Rattle.std.proofs.Common.{◌≡◌, Some, take}
use Rattle.counting.specs.Texts.{with_marked}
use Rattle.counting.proofs.finds.add_to_marked.Given as goal

abbrev pub invariant-loop-number : goal.invariant-loop-number
invariant-loop-number l = l.finds ≡ with_marked (record { count = l.count; first = Some l.spots }) (take l.number l.marks) l.fn.finds
