use Rattle.std.proofs.Common.{◌≡◌, map, take}
use Rattle.counting.specs.Texts.{saw}
use Rattle.counting.proofs.book.look_at.Given as goal

abbrev pub invariant-loop-line : goal.invariant-loop-line
invariant-loop-line l = l.finds ≡ map (saw (take l.line-index l.lines)) l.fn.finds
