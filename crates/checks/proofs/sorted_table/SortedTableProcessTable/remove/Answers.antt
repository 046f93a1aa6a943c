use Rattle.std.proofs.Common.{subst}
use Rattle.posix.specs.Common.{pids}
use Rattle.pidset.specs.Numbers.{IsNumberAt}
use Rattle.checks.proofs.SortedLemmas.{rises_taken}
use Rattle.checks.proofs.sorted_table.SortedTableProcessTable.remove.Goals as goal

pub invariant_of-self : goal.invariant_of-self
invariant_of-self c =
    let at = subst (λ rs. IsNumberAt (pids rs) c.args.pid c.in-Ok.at) c.deref.ensures.value c.in-Ok.ensures.found in
    rw c.remove.ensures.items (rises_taken c.args.pid c.in-Ok.at c.self.inside.rows.items c.self.invariant at)
