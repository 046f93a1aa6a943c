use Rattle.std.proofs.Common.{refl}
use Rattle.proctable.proofs.RecordLemmas.{own_record}
use Rattle.jobs.proofs.KeptLemmas.{kept_unseen}
use Rattle.jobs.proofs.indexed_table.IndexedTable.own.Goals as goal

pub invariant_of-self-lent : goal.invariant_of-self-lent
invariant_of-self-lent g c = λ w. kept_unseen _ _ _ c.args.pid c.update-fields.result.now (record (c.update-fields.result.now) { own = w }) _ c.update-fields.ensures.value (g.met.K.ProcessTable.puts _ _ _) refl c.self.invariant

pub returns : goal.returns
returns g c = (
  (refl, λ w. rw (← c.self.view_is, g.met.K.ProcessTable.puts c.self.inside.table c.args.pid (record (c.update-fields.result.now) { own = w }), own_record _ c.self.invariant.rising c.args.pid c.update-fields.result.now w c.update-fields.ensures.value, g.met.K.ProcessTable.put_reads c.self.inside.table c.args.pid (record (c.update-fields.result.now) { own = w }), g.met.K.ProcessTable.keeps_room c.self.inside.table c.args.pid (record (c.update-fields.result.now) { own = w })) refl),
  record { lends = tt; value = rw (← c.self.view_is) (rw c.update-fields.ensures.value refl) },
)
