use Rattle.jobs.proofs.IndexLemmas.{next_due}
use Rattle.jobs.proofs.indexed_table.IndexedTable.next_due.Goals as goal

pub returns : goal.returns
returns g c = rw (← c.self.view_is) (next_due c.args.tick c.args.after (g.K.ProcessTable.contents c.self.inside.table) c.self.inside.indexes _ c.self.invariant.rising c.self.invariant.indexes c.next.ensures.next)
