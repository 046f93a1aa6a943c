use Rattle.std.proofs.Common.{◌∙◌, refl}
use Rattle.proctable.proofs.RecordLemmas.{same_record}
use Rattle.jobs.proofs.KeptLemmas.{kept_unseen}
use Rattle.jobs.proofs.indexed_table.IndexedTable.look.Goals as goal

pub invariant_of-self : goal.invariant_of-self
invariant_of-self g c = kept_unseen _ _ _ c.args.pid c.update.result.now c.update.result.now _ c.update.ensures.value (g.met.K.ProcessTable.puts _ _ _) refl c.self.invariant

pub returns : goal.returns
returns g c =
    let b = c.update.result.now in
    let same = g.met.K.ProcessTable.puts c.self.inside.table c.args.pid b ∙ same_record _ c.self.invariant.rising c.args.pid b c.update.ensures.value in (
      (refl, λ _. tt, rw (← c.self.view_is, same, g.met.K.ProcessTable.put_reads c.self.inside.table c.args.pid b, g.met.K.ProcessTable.keeps_room c.self.inside.table c.args.pid b) refl),
      record { lends = tt; value = rw (← c.self.view_is) c.update.ensures.value },
    )
