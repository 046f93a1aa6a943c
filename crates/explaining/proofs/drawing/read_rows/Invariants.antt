use Rattle.std.proofs.Common.{◌+◌, ◌≤◌, length}
use Rattle.explaining.proofs.DrawingLemmas.{IsReadTo}
use Rattle.explaining.proofs.drawing.read_rows.Given as goal

abbrev pub invariant-loop-line : goal.invariant-loop-line
invariant-loop-line l = record { read : IsReadTo l.fn.trace l.number l.rest; within : l.number + length l.rest ≤ length l.fn.trace + 1 }

abbrev pub decreases-loop-line : goal.decreases-loop-line
decreases-loop-line l = length l.rest
