use Rattle.std.proofs.Common.{ap}
use Rattle.pidset.proofs.ListLemmas.{grown}
use Rattle.pidset.proofs.lists.Lists.reserve.Goals as goal

pub invariant_of-self : goal.invariant_of-self
invariant_of-self c = (grown c.self.inside.nodes c.reserve.new.self c.args.self.now.pairs (ap (λ v. v.pairs) c.self.view_is) c.self.invariant c.reserve.ensures.rows).linked

pub returns-clause-pairs : goal.returns-clause-pairs
returns-clause-pairs c = (grown c.self.inside.nodes c.reserve.new.self c.args.self.now.pairs (ap (λ v. v.pairs) c.self.view_is) c.self.invariant c.reserve.ensures.rows).pairs
