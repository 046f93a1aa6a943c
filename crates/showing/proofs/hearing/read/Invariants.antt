use Rattle.showing.specs.Pasts.{IsSame}
use Rattle.showing.proofs.hearing.read.Given as goal

abbrev pub invariant-loop-pid : goal.invariant-loop-pid
invariant-loop-pid l = IsSame l.fn.kernel l.kernel
