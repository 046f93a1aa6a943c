use Rattle.showing.specs.Pasts.{IsSame}
use Rattle.showing.proofs.state.processes.Given as goal

abbrev pub invariant-loop : goal.invariant-loop
invariant-loop l = IsSame l.fn.kernel l.kernel
