use Rattle.std.proofs.Common.{◌∙◌, ap, sym}
use Rattle.posix.specs.Common.{removed}
use Rattle.jobs.proofs.KeptLemmas.{can_leave, kept_removed}
use Rattle.jobs.proofs.RoomLemmas.{anchors_room, children_room}
use Rattle.jobs.proofs.indexed_table.IndexedTable.remove.Goals as goal

pub reindex-requires-clause-can : goal.reindex-requires-clause-can
reindex-requires-clause-can g c = rw c.of_snapshot.ensures (can_leave (sym c.in-Some.is ∙ c.get.ensures.value) c.self.invariant).0

pub reindex-requires-clause-inside : goal.reindex-requires-clause-inside
reindex-requires-clause-inside g c = ((can_leave (sym c.in-Some.is ∙ c.get.ensures.value) c.self.invariant).1.1, tt)

pub put-requires-clause-pid : goal.put-requires-clause-pid
put-requires-clause-pid g c =
    let number = (can_leave (sym c.in-Some.is ∙ c.get.ensures.value) c.self.invariant).1 in
    rw c.reindex.ensures.anchors (number.0, anchors_room c.self.inside.indexes _ number.1)

pub put-requires-2-clause-pid : goal.put-requires-2-clause-pid
put-requires-2-clause-pid g c =
    let number = (can_leave (sym c.in-Some.is ∙ c.get.ensures.value) c.self.invariant).1 in
    rw c.reindex.ensures.children (number.0, children_room c.self.inside.indexes _ number.1)

pub invariant_of-self-2 : goal.invariant_of-self-2
invariant_of-self-2 g c =
    kept_removed c.self.inside.count _ _ c.args.pid c.in-Some.snapshot c.self.inside.indexes c.reindex.new.self c.put.new.self c.put-2.new.self (sym c.in-Some.is ∙ c.get.ensures.value) (rw (← c.self.view_is) at c.requires) (c.remove.ensures.contents ∙ ap (removed c.args.pid) c.get.ensures.contents) c.reindex.ensures.moved (rw c.reindex.ensures.anchors at c.put.ensures.moved) (rw c.reindex.ensures.anchors at c.put.ensures.sizes) (rw c.reindex.ensures.children at c.put-2.ensures.moved) (rw c.reindex.ensures.children at c.put-2.ensures.sizes) c.self.invariant
