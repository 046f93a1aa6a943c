use Rattle.std.proofs.Common.{◌∙◌, ap, sym}
use Rattle.posix.specs.Common.{adopted}
use Rattle.jobs.specs.declared.indexes.Indexes.{Indexes}
use Rattle.jobs.proofs.ChildLemmas.{none_adopted}
use Rattle.jobs.proofs.KeptLemmas.{kept_adopted, kin_kept, number_kept, widen}
use Rattle.jobs.proofs.RoomLemmas.{anchors_room, children_room}
use Rattle.jobs.proofs.indexed_table.IndexedTable.adopt.Goals as goal

pub returns-then-is_childless-clause-processes : goal.returns-then-is_childless-clause-processes
returns-then-is_childless-clause-processes g c = none_adopted c.args.from c.args.to _ (sym c.is_childless.ensures ∙ c.if-is_childless.true)

pub give_children-requires-clause-kin : goal.give_children-requires-clause-kin
give_children-requires-clause-kin g c = rw c.seen_there-heir.ensures.contents (kin_kept c.self.invariant)

pub give_children-requires-clause-within : goal.give_children-requires-clause-within
give_children-requires-clause-within g c = rw c.seen_there-heir.ensures.contents (widen _ _ _ (anchors_room c.self.inside.indexes) c.self.invariant.within)

pub rekey-requires-clause-from : goal.rekey-requires-clause-from
rekey-requires-clause-from g c =
    let number = number_kept c.self.invariant (rw (← c.self.view_is) at c.requires.giver) in
    (number.0, children_room c.self.inside.indexes _ number.1)

pub rekey-requires-clause-to : goal.rekey-requires-clause-to
rekey-requires-clause-to g c =
    let number = number_kept c.self.invariant (rw (← c.self.view_is) at c.requires.there) in
    (number.0, children_room c.self.inside.indexes _ number.1)

pub invariant_of-self : goal.invariant_of-self
invariant_of-self g c =
    let rs = g.K.ProcessTable.contents c.self.inside.table in
    let given = c.give_children.ensures in
    let same = c.seen_there-heir.ensures.contents in
    kept_adopted _ rs _ c.args.from c.args.to c.self.inside.indexes _ c.requires.apart (given.contents ∙ ap (adopted c.args.from c.args.to) same) (λ h. c.reparent.ensures.indexes rs record { members = h.members; reporting = h.reporting; stopped = h.stopped; alarmed = h.alarmed; subreapers = h.subreapers }) (ap (λ (b : Indexes). b.members) c.reparent.ensures.rest)
    c.seen_there-heir.result c.seen_there-heir.ensures.value (rw (c.reparent.ensures.rest, ← same) given.turned) (rw c.reparent.ensures.rest given.sizes)
    (rw (← c.self.view_is) at c.requires.giver) (rw c.reparent.ensures.rest c.rekey.ensures.pairs) (rw c.reparent.ensures.rest c.rekey.ensures.sizes) c.self.invariant
