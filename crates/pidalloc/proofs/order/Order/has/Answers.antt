use Rattle.std.proofs.Common.{arith}
use Rattle.std.proofs.lemmas.Bool.Decides.{nat_tests}
use Rattle.pidalloc.proofs.LinkLemmas.{next_read}
use Rattle.pidalloc.proofs.RingLemmas.{inside, known}
use Rattle.pidalloc.proofs.order.Order.has.Goals as goal

pub returns-then-has : goal.returns-then-has
returns-then-has c =
    let k = (known _ _ _ _ c.self.invariant c.self.view_is).kept in
    grind (arith, nat_tests, k.told c.args.pid, next_read c.self.inside.nodes c.args.pid _ (c.get.ensures _))

pub returns-else-has : goal.returns-else-has
returns-else-has c =
    let k = (known _ _ _ _ c.self.invariant c.self.view_is).kept in
    grind (arith, nat_tests, inside _ _ _ k c.args.pid)
