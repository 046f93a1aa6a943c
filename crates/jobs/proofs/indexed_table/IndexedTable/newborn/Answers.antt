use Rattle.std.proofs.Common.{◌∙◌, refl, ap}
use Rattle.std.proofs.lemmas.Result.{IfOk-weaker}
use Rattle.proctable.proofs.RecordLemmas.{same_record, child_groups}
use Rattle.jobs.specs.Indexes.{lesser, room_in}
use Rattle.jobs.proofs.KeptLemmas.{kept_unseen}
use Rattle.jobs.proofs.indexed_table.IndexedTable.newborn.Goals as goal

pub invariant_of-self : goal.invariant_of-self
invariant_of-self g c =
    let kept = rw (← c.spare-spare.ensures.contents) at c.self.invariant in
    kept_unseen _ _ _ c.args.pid c.update.result.now c.update.result.now _ c.update.ensures.value (g.met.K.ProcessTable.puts _ _ _) refl kept

pub returns-clause-groups : goal.returns-clause-groups
returns-clause-groups g c =
    rw (← c.self.view_is, ← c.spare-spare.ensures.contents) (IfOk-weaker c.fork.result _ _ (λ b child. child_groups _ c.args.pid c.args.birth c.update.result.now b c.update.ensures.value child) c.fork.ensures)

pub returns-clause-looks : goal.returns-clause-looks
returns-clause-looks g c = rw (← c.self.view_is) (record {
  processes = g.met.K.ProcessTable.puts _ _ _ ∙ same_record _ c.update.ensures.rising c.args.pid c.update.result.now c.update.ensures.value ∙ c.spare-spare.ensures.contents;
  room = ap (λ n. lesser n (room_in c.self.inside.count c.self.inside.indexes)) (g.met.K.ProcessTable.keeps_room _ _ _ ∙ c.spare-spare.ensures.room);
  sizes = refl;
  visits = rw (g.met.K.ProcessTable.put_reads c.spare-spare.new.self c.args.pid c.update.result.now, c.spare-spare.ensures.visits) (g.met.K.ProcessTable.at_most_one _);
  no_fewer = rw (g.met.K.ProcessTable.put_reads c.spare-spare.new.self c.args.pid c.update.result.now, c.spare-spare.ensures.visits) (g.met.K.ProcessTable.no_less _);
  rising = c.self.invariant.rising;
  numbers = c.self.invariant.numbers;
})

pub returns-clause-within : goal.returns-clause-within
returns-clause-within g c =
    let w = c.self.invariant.within c.args.pid _ (rw c.spare-spare.ensures.contents at c.update.ensures.value) in
    IfOk-weaker c.fork.result _ _ (λ b child. let same = (child_groups _ c.args.pid c.args.birth c.update.result.now b c.update.ensures.value child _ c.update.ensures.value).0 in rw same (w.1.0, w.2)) c.fork.ensures
