use Rattle.jobs.proofs.ChildLemmas.{childless}
use Rattle.jobs.proofs.KeptLemmas.{kin_kept}
use Rattle.jobs.proofs.indexed_table.IndexedTable.is_childless.Goals as goal

pub returns : goal.returns
returns g c = rw (← c.self.view_is) (childless c.args.pid _ _ _ _ (kin_kept c.self.invariant) c.requires c.next.ensures c.is_none.ensures)
