use Rattle.std.proofs.Math.Nat.{le_trans}
use Rattle.std.proofs.lemmas.Option.{IfSome_then}
use Rattle.posix.specs.Common.{current_process}
use Rattle.kernel.proofs.step.next.Goals as goal

pub returns-clause-counts : goal.returns-clause-counts
returns-clause-counts g c = λ steps goes. IfSome_then (current_process c.args.machine.now.state) (c.happen.ensures.counts steps) (λ me more. le_trans more c.settle.ensures.no_fewer)
