use Rattle.std.proofs.Common.{arith}
use Rattle.std.proofs.lemmas.Bool.Decides.{nat_tests}
use Rattle.pidset.proofs.ListLemmas.{moved, key_is}
use Rattle.pidset.proofs.lists.Lists.put.Goals as goal

pub returns-then-eq-clause-moved : goal.returns-then-eq-clause-moved
returns-then-eq-clause-moved c = moved c.self.inside.nodes c.self.inside.nodes c.args.pid c.unwrap_or-new.result c.args.list _ _ (cc) (cc) c.unwrap_or-new.ensures (key_is _ _ c.requires.list) (λ i. grind (arith, nat_tests))

pub returns-then-ne-clause-moved : goal.returns-then-ne-clause-moved
returns-then-ne-clause-moved c = moved c.self.inside.nodes c.put_in.new.nodes c.args.pid c.unwrap_or-new.result c.args.list _ _ (cc) (cc) c.unwrap_or-new.ensures (key_is _ _ c.requires.list) (λ i. grind (arith, nat_tests, c.put_in.ensures.list i, c.take_out.ensures.list i))

pub returns-else-ne-clause-moved : goal.returns-else-ne-clause-moved
returns-else-ne-clause-moved c = moved c.self.inside.nodes c.take_out.new.nodes c.args.pid c.unwrap_or-new.result c.args.list _ _ (cc) (cc) c.unwrap_or-new.ensures (key_is _ _ c.requires.list) (λ i. grind (arith, nat_tests, c.take_out.ensures.list i))
