use Rattle.std.proofs.Common.{sym, subst}
use Rattle.tty.specs.Limits.{AreFew}
use Rattle.tty.proofs.LimitLemmas.{few_left}
use Rattle.tty.proofs.console.Console.take.Goals as goal

pub invariant_of-self : goal.invariant_of-self
invariant_of-self c = record { lines = subst AreFew (sym c.take.ensures.lines) (few_left _ _ c.self.invariant.lines); bytes = c.self.invariant.bytes }
