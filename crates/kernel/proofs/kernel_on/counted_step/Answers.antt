use Rattle.std.proofs.Common.{refl, arith}
use Rattle.std.proofs.lemmas.Option.{IfSome_then}
use Rattle.posix.specs.Common.{current_process}
use Rattle.kernel.proofs.kernel_on.counted_step.Goals as goal

pub returns-clause-counts : goal.returns-clause-counts
returns-clause-counts c = λ going. IfSome_then (current_process c.args.kernel.now.state) (c.event.ensures.counts refl going) (λ me more. omega (arith, more))
