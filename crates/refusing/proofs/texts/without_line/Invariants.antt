use Rattle.std.proofs.Common.{◌≡◌, ◌++◌, length}
use Rattle.text.specs.Lines.{all_lines}
use Rattle.refusing.specs.Faults.{lines_without}
use Rattle.refusing.proofs.texts.without_line.Given as goal

abbrev pub invariant-loop-line : goal.invariant-loop-line
invariant-loop-line l = l.all.items ++ lines_without l.left (all_lines l.rest) ≡ lines_without l.fn.number (all_lines l.fn.text)

abbrev pub decreases-loop-line : goal.decreases-loop-line
decreases-loop-line l = length l.rest
