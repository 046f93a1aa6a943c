use Rattle.std.proofs.Common.{refl}
use Rattle.jobs.proofs.RoomLemmas.{anchors_unused, children_unused, kept_left, members_unused, sizes_left}
use Rattle.jobs.proofs.indexed_table.IndexedTable.give_up_page.Goals as goal

pub give_up_page-requires-clause-members : goal.give_up_page-requires-clause-members
give_up_page-requires-clause-members g c = members_unused c.args.pid _ c.self.inside.indexes (rw (← c.self.view_is) at c.requires) c.self.invariant

pub give_up_page-requires-clause-anchors : goal.give_up_page-requires-clause-anchors
give_up_page-requires-clause-anchors g c = anchors_unused c.args.pid _ c.self.inside.indexes (rw (← c.self.view_is) at c.requires) c.self.invariant

pub give_up_page-requires-clause-children : goal.give_up_page-requires-clause-children
give_up_page-requires-clause-children g c = children_unused c.args.pid _ c.self.inside.indexes (rw (← c.self.view_is) at c.requires) c.self.invariant

pub invariant_of-self : goal.invariant_of-self
invariant_of-self g c = rw c.give_up_page.ensures (kept_left c.self.inside.count c.args.pid _ c.self.inside.indexes (rw (← c.self.view_is) at c.requires) c.self.invariant)

pub returns : goal.returns
returns g c = rw (← c.self.view_is, c.give_up_page.ensures, sizes_left c.args.pid c.self.inside.indexes) refl
