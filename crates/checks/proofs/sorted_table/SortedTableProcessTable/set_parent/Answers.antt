use Rattle.std.proofs.Common.{refl, sym, subst}
use Rattle.posix.specs.Common.{pids}
use Rattle.proctable.specs.Records.{with_parent}
use Rattle.pidset.specs.Numbers.{IsNumberAt}
use Rattle.checks.proofs.SortedLemmas.{changed_in, read_in, rises_set}
use Rattle.checks.proofs.sorted_table.SortedTableProcessTable.set_parent.Goals as goal

pub invariant_of-self : goal.invariant_of-self
invariant_of-self c =
    let at = subst (λ rs. IsNumberAt (pids rs) c.args.pid c.in-Ok.at) c.deref.ensures.value c.in-Ok.ensures.found in
    rw c.set_parent.ensures (rises_set c.args.pid c.in-Ok.at (with_parent c.args.parent) c.index_mut-row.result.now c.self.inside.rows.items (λ r. refl) c.self.invariant at c.index_mut-row.ensures.value)

pub returns-clause-value : goal.returns-clause-value
returns-clause-value c =
    let at = subst (λ rs. IsNumberAt (pids rs) c.args.pid c.in-Ok.at) c.deref.ensures.value c.in-Ok.ensures.found in
    rw (← c.self.view_is, read_in c.args.pid c.in-Ok.at c.index_mut-row.result.now c.self.inside.rows.items c.self.invariant at c.index_mut-row.ensures.value, c.snapshot.ensures, c.set_parent.ensures) refl

pub returns-clause-contents : goal.returns-clause-contents
returns-clause-contents c =
    let at = subst (λ rs. IsNumberAt (pids rs) c.args.pid c.in-Ok.at) c.deref.ensures.value c.in-Ok.ensures.found in
    rw (c.set_parent.ensures, ← c.self.view_is) (sym (changed_in c.args.pid c.in-Ok.at (with_parent c.args.parent) c.index_mut-row.result.now c.self.inside.rows.items c.self.invariant at c.index_mut-row.ensures.value))
