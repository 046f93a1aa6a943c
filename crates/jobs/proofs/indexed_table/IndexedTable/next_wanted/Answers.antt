use Rattle.std.proofs.Common.{sym, ◌∙◌}
use Rattle.jobs.proofs.ChildLemmas.{none_wanted}
use Rattle.jobs.proofs.indexed_table.IndexedTable.next_wanted.Goals as goal

pub returns-then-is_childless : goal.returns-then-is_childless
returns-then-is_childless g c = none_wanted c.args.parent c.args.after c.args.options.0 _ (sym c.is_childless.ensures ∙ c.if-is_childless.true)
