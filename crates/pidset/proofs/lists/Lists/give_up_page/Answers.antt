use Rattle.pidset.proofs.ListLemmas.{left}
use Rattle.pidset.proofs.lists.Lists.give_up_page.Goals as goal

pub invariant_of-self : goal.invariant_of-self
invariant_of-self c = (left c.self.inside.nodes _ c.args.pid c.args.self.now c.self.view_is c.give_up_page.ensures c.self.invariant c.requires).0

pub returns : goal.returns
returns c = (left c.self.inside.nodes _ c.args.pid c.args.self.now c.self.view_is c.give_up_page.ensures c.self.invariant c.requires).1
