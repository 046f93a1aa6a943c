use Rattle.showing.specs.Pasts.{IsSame}
use Rattle.showing.proofs.state.put_consoles.Given as goal

abbrev pub invariant-loop-index : goal.invariant-loop-index
invariant-loop-index l = IsSame l.fn.kernel l.kernel
