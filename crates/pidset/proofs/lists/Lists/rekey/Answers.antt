use Rattle.pidset.proofs.ListLemmas.{rekeyed}
use Rattle.pidset.proofs.lists.Lists.rekey.Goals as goal

pub returns-clause-pairs : goal.returns-clause-pairs
returns-clause-pairs c = rekeyed c.self.inside.nodes c.move_all.new.nodes c.args.from c.args.to _ _ (cc) (cc) c.requires.apart c.requires.from.0 c.requires.to.0 c.move_all.ensures.list
