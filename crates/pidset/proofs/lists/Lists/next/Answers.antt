use Rattle.std.proofs.Common.{arith}
use Rattle.std.proofs.lemmas.Bool.Decides.{nat_tests}
use Rattle.pidset.proofs.LinkLemmas.{stands_inside}
use Rattle.pidset.proofs.ListLemmas.{next_some, next_none, next_outside}
use Rattle.pidset.proofs.lists.Lists.next.Goals as goal

pub returns-then-eq : goal.returns-then-eq
returns-then-eq c = next_outside c.self.inside.nodes c.args.list c.args.after _ (cc) c.self.invariant (grind (arith, nat_tests))

pub behind-next-requires-clause-at_inside : goal.behind-next-requires-clause-at_inside
behind-next-requires-clause-at_inside c = grind (arith, stands_inside c.self.inside.nodes c.args.list c.loop-next.next)

pub returns-then-eq-2 : goal.returns-then-eq-2
returns-then-eq-2 c = next_none c.self.inside.nodes c.args.list c.args.after c.loop-next.next _ (cc) c.loop-next.invariant (grind (arith, nat_tests))

pub returns-else-eq-2 : goal.returns-else-eq-2
returns-else-eq-2 c = next_some c.self.inside.nodes c.args.list c.args.after c.loop-next.next _ (cc) (grind (arith, nat_tests)) c.loop-next.invariant (grind (arith, nat_tests)) (grind (arith, nat_tests))
