use Rattle.std.proofs.Common.{arith, sym}
use Rattle.std.proofs.lemmas.Bool.{eq-eqb, eqb-true}
use Rattle.pidalloc.proofs.LinkLemmas.{next_read}
use Rattle.pidalloc.proofs.RingLemmas.{inside, known}
use Rattle.pidalloc.proofs.BehindLemmas.{behind_absent, behind_kept}
use Rattle.pidalloc.proofs.order.Order.behind.Goals as goal

pub returns-then-not-has : goal.returns-then-not-has
returns-then-not-has c = sym (behind_absent _ _ (sym c.if-not-has.ensures))

pub get-next-requires : goal.get-next-requires
get-next-requires c = inside _ _ _ (known _ _ _ _ c.self.invariant c.self.view_is).kept c.args.pid (sym c.if-not-has.ensures)

pub returns-then-eq : goal.returns-then-eq
returns-then-eq c =
    let k = (known _ _ _ _ c.self.invariant c.self.view_is).kept in
    grind (arith, eq-eqb, eqb-true, behind_kept _ _ _ _ k (sym c.if-not-has.ensures), next_read c.self.inside.nodes c.args.pid _ (c.get-next.ensures _))

pub returns-else-eq : goal.returns-else-eq
returns-else-eq c =
    let k = (known _ _ _ _ c.self.invariant c.self.view_is).kept in
    grind (arith, eqb-true, behind_kept _ _ _ _ k (sym c.if-not-has.ensures), next_read c.self.inside.nodes c.args.pid _ (c.get-next.ensures _))
