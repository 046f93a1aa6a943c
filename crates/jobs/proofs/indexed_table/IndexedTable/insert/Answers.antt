use Rattle.std.proofs.Common.{arith, sym, subst, None, ⊎_elim, inl, inr}
use Rattle.pidset.specs.Indexes.{IsMoved}
use Rattle.proctable.specs.Records.{process_of}
use Rattle.jobs.specs.Indexes.{record_seen}
use Rattle.jobs.proofs.ChildLemmas.{list_inside, no_anchor, parent_there}
use Rattle.jobs.proofs.IndexLemmas.{fits_more, can_move, room_less, sees_none}
use Rattle.jobs.proofs.KeptLemmas.{kept_inserted, number_kept}
use Rattle.jobs.proofs.RoomLemmas.{anchors_room, children_room}
use Rattle.jobs.proofs.indexed_table.IndexedTable.insert.Goals as goal

pub reindex-requires-clause-can : goal.reindex-requires-clause-can
reindex-requires-clause-can g c =
    let free = fits_more (g.K.ProcessTable.room c.self.inside.table) c.self.inside.count c.self.inside.indexes (rw (← c.self.view_is) at c.requires.room) in
    can_move c.args.pid c.args.parent None _ c.self.inside.indexes c.self.invariant.rising c.self.invariant.indexes (sees_none c.args.pid c.args.parent _ (rw (← c.self.view_is) at c.requires.fresh)) (λ e. rw (← c.self.invariant.count) free)

pub reindex-requires-clause-inside : goal.reindex-requires-clause-inside
reindex-requires-clause-inside g c =
    let group = rw (← c.self.view_is) at c.requires.group in
    rw c.of_record-after.ensures (rw (← c.self.view_is) at c.requires.inside, ((group.0, rw c.number-2.ensures.value at c.number-2.ensures.range), group.1))

pub invariant_of-self : goal.invariant_of-self
invariant_of-self g c =
    let inside = rw (← c.self.view_is) at c.requires.inside in
    let group = rw (← c.self.view_is) at c.requires.group in
    let free = fits_more (g.K.ProcessTable.room c.self.inside.table) c.self.inside.count c.self.inside.indexes (rw (← c.self.view_is) at c.requires.room) in
    kept_inserted c.self.inside.count _ _ (process_of c.args.pid c.args.parent c.args.fields) c.self.inside.indexes c.reindex.new.self c.put.new.self c.put-2.new.self (omega (arith, c.requires.number), rw c.number.ensures.value at c.number.ensures.range) (inside, ((group.0, rw c.number-2.ensures.value at c.number-2.ensures.range), group.1)) (rw (← c.self.view_is) at c.requires.fresh) (parent_there c.args.parent c.args.fields.group _ (rw (← c.self.view_is) at c.requires.parent)) c.insert.ensures.contents free
    (rw c.of_record-after.ensures at c.reindex.ensures.moved) (subst (λ k. IsMoved c.args.pid k c.self.inside.indexes.anchors.pairs c.put.new.self.pairs) (sym (no_anchor c.args.parent (record_seen c.args.fields) _ (rw (← c.self.view_is) at c.requires.parent))) (rw c.reindex.ensures.anchors at c.put.ensures.moved)) (rw c.reindex.ensures.anchors at c.put.ensures.sizes) (rw (c.parent_list.ensures, c.reindex.ensures.children) at c.put-2.ensures.moved) (rw c.reindex.ensures.children at c.put-2.ensures.sizes) c.self.invariant

pub put-requires-clause-pid : goal.put-requires-clause-pid
put-requires-clause-pid g c = rw c.reindex.ensures.anchors (omega (arith, c.requires.number), anchors_room c.self.inside.indexes _ (rw (← c.self.view_is) at c.requires.inside))

pub put-requires-2-clause-pid : goal.put-requires-2-clause-pid
put-requires-2-clause-pid g c = rw c.reindex.ensures.children (omega (arith, c.requires.number), children_room c.self.inside.indexes _ (rw (← c.self.view_is) at c.requires.inside))

pub put-requires-2-clause-list : goal.put-requires-2-clause-list
put-requires-2-clause-list g c =
    rw (c.parent_list.ensures, c.reindex.ensures.children) (list_inside _ c.args.parent (⊎_elim (λ first. inl first.0) (λ there. let number = number_kept c.self.invariant there in inr (number.0, children_room c.self.inside.indexes _ number.1)) (parent_there c.args.parent c.args.fields.group _ (rw (← c.self.view_is) at c.requires.parent))))

pub returns-clause-room : goal.returns-clause-room
returns-clause-room g c = rw (← c.self.view_is) (room_less _ _ c.self.inside.count c.self.inside.indexes c.reindex.new.self c.insert.ensures.room c.reindex.ensures.moved)
