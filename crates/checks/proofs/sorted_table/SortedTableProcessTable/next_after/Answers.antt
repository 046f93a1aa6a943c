use Rattle.std.proofs.Common.{◌∙◌, ap, option_map, slice_get, sym}
use Rattle.std.specs.Option.{option_copied}
use Rattle.posix.specs.Common.{Process, above}
use Rattle.checks.proofs.SortedLemmas.{next_in}
use Rattle.checks.proofs.sorted_table.SortedTableProcessTable.next_after.Goals as goal

pub returns-clause-value : goal.returns-clause-value
returns-clause-value c =
    let first = sym (ap option_copied c.in-Some.is) ∙ c.next_above.ensures ∙ ap (λ rs. slice_get (above c.args.pid rs) 0) c.deref.ensures.value in
    rw (← c.self.view_is, next_in c.args.pid c.self.inside.rows.items, c.pid.ensures) (ap (option_map (λ (r : Process). r.pid)) first)
