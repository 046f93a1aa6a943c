use Rattle.std.proofs.Common.{ap, ◌∙◌, subst}
use Rattle.posix.specs.Common.{lookup, pids}
use Rattle.pidset.specs.Numbers.{IsNumberAt}
use Rattle.checks.proofs.SortedLemmas.{present_in}
use Rattle.checks.proofs.sorted_table.SortedTableProcessTable.insert.Goals as goal

pub unreachable-requires : goal.unreachable-requires
unreachable-requires c =
    let at = subst (λ rs. IsNumberAt (pids rs) c.args.pid c.in_default.field-0) c.deref.ensures.value c.in_default.ensures.found in
    present_in c.args.pid c.in_default.field-0 c.self.inside.rows.items c.self.invariant at (ap (λ t. lookup c.args.pid t.processes) c.self.view_is ∙ c.requires.fresh)
