use Rattle.showing.specs.Pasts.{IsSame}
use Rattle.showing.proofs.state.put_missing.Given as goal

abbrev pub invariant-loop-pid : goal.invariant-loop-pid
invariant-loop-pid l = IsSame l.fn.replay.kernel l.replay.kernel
