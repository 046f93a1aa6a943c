use Rattle.std.proofs.Common.{◌≡◌, ◌++◌, length}
use Rattle.refusing.specs.Marks.{shown, shown_from}
use Rattle.refusing.proofs.marks.write_shown.Given as goal

abbrev pub invariant-loop-rest : goal.invariant-loop-rest
invariant-loop-rest l = l.out.items ++ shown_from l.more l.rest ≡ l.fn.out.items ++ shown l.text

abbrev pub decreases-loop-rest : goal.decreases-loop-rest
decreases-loop-rest l = length l.rest
