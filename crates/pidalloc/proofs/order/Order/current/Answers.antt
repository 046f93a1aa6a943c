use Rattle.std.proofs.Common.{arith}
use Rattle.std.proofs.lemmas.Bool.{eqb-true, eq-eqb}
use Rattle.pidalloc.proofs.RingLemmas.{first_is, known}
use Rattle.pidalloc.proofs.order.Order.current.Goals as goal

pub returns-then-eq : goal.returns-then-eq
returns-then-eq c = grind (arith, eq-eqb, first_is _ _ _ (known _ _ _ _ c.self.invariant c.self.view_is).kept)

pub returns-else-eq : goal.returns-else-eq
returns-else-eq c = grind (arith, eqb-true, first_is _ _ _ (known _ _ _ _ c.self.invariant c.self.view_is).kept)
