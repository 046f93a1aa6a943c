use Rattle.std.proofs.Common.{refl, subst}
use Rattle.posix.specs.Common.{pids}
use Rattle.proctable.specs.Records.{give_record}
use Rattle.proctable.proofs.SlabLemmas.{kept_pid, read_process}
use Rattle.pidset.specs.Numbers.{IsNumberAt}
use Rattle.checks.proofs.SortedLemmas.{changed_in, read_in, rises_set, rising_in}
use Rattle.checks.proofs.sorted_table.SortedTableProcessTable.update.Goals as goal

pub invariant_of-self-lent : goal.invariant_of-self-lent
invariant_of-self-lent c =
    let at = subst (λ rs. IsNumberAt (pids rs) c.args.pid c.in-Ok.at) c.deref.ensures.value c.in-Ok.ensures.found in
    λ w. rises_set c.args.pid c.in-Ok.at (give_record w) c.index_mut-row.result.now c.self.inside.rows.items (kept_pid w) c.self.invariant at c.index_mut-row.ensures.value

pub returns : goal.returns
returns c =
    let rs = c.self.inside.rows.items in
    let r = c.index_mut-row.result.now in
    let at = subst (λ rs. IsNumberAt (pids rs) c.args.pid c.in-Ok.at) c.deref.ensures.value c.in-Ok.ensures.found in (
      (refl, λ w. rw (← changed_in c.args.pid c.in-Ok.at (give_record w) r rs c.self.invariant at c.index_mut-row.ensures.value, ← c.self.view_is) refl),
      record {
        lends = tt;
        rising = rw (← c.self.view_is) (rising_in rs c.self.invariant);
        value = rw (← c.self.view_is) (read_process rs c.args.pid r c.record_mut.result.now (read_in c.args.pid c.in-Ok.at r rs c.self.invariant at c.index_mut-row.ensures.value) c.record_mut.ensures.value);
      },
    )
