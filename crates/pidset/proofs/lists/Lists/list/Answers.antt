use Rattle.std.proofs.Common.{arith, None, Some}
use Rattle.std.proofs.lemmas.Bool.Decides.{nat_tests}
use Rattle.pidset.proofs.ListLemmas.{at_list, list_outside}
use Rattle.pidset.proofs.lists.Lists.list.Goals as goal

pub returns-then-not-has : goal.returns-then-not-has
returns-then-not-has c = at_list c.self.inside.nodes c.args.pid None _ (cc) (list_outside _ _ (grind (arith, nat_tests))) tt

pub returns-then-eq : goal.returns-then-eq
returns-then-eq c = at_list c.self.inside.nodes c.args.pid None _ (cc) (grind (arith, nat_tests)) tt

pub returns-else-eq : goal.returns-else-eq
returns-else-eq c = at_list c.self.inside.nodes c.args.pid (Some c.list_at-list.result) _ (cc) (grind (arith, nat_tests)) (grind (arith, nat_tests))
