use Rattle.pidset.proofs.IndexLemmas.{at_once}
use Rattle.jobs.proofs.indexed_table.IndexedTable.group_kept.Goals as goal

pub returns : goal.returns
returns g c = rw (← c.self.view_is) (at_once c.args.pid _ _ c.self.inside.indexes.anchors.pairs c.list.ensures (c.self.invariant.anchors.index c.args.pid))
