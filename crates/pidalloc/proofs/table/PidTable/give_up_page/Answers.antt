use Rattle.pidalloc.proofs.TableLemmas.{page_given_up}
use Rattle.pidalloc.proofs.table.PidTable.give_up_page.Goals as goal

pub invariant_of-self : goal.invariant_of-self
invariant_of-self c = let i = c.self.inside in (page_given_up i.pidmax i.last c.args.pid i.rows _ i.counts.items i.borne_below i.borne_from _ c.self.view_is c.give_up_page.ensures c.self.invariant c.requires).0

pub returns : goal.returns
returns c = let i = c.self.inside in (page_given_up i.pidmax i.last c.args.pid i.rows _ i.counts.items i.borne_below i.borne_from _ c.self.view_is c.give_up_page.ensures c.self.invariant c.requires).1
