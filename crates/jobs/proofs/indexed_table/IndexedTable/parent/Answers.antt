use Rattle.std.proofs.Common.{◌∙◌}
use Rattle.jobs.proofs.ChildLemmas.{parent_listed}
use Rattle.jobs.proofs.indexed_table.IndexedTable.parent.Goals as goal

pub returns : goal.returns
returns g c = rw (← c.self.view_is) (c.unwrap_or.ensures ∙ parent_listed c.args.pid _ _ _ c.self.invariant.children c.list.ensures (rw (← c.self.view_is) at c.requires))
