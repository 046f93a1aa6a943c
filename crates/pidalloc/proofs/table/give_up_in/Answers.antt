use Rattle.std.proofs.Common.{ap, sym, ◌∙◌}
use Rattle.pidset.proofs.RowLemmas.{sizes_kept}
use Rattle.pidalloc.specs.Rows.{is_free_row, one_less}
use Rattle.pidalloc.proofs.RowLemmas.{counted_borne}
use Rattle.pidalloc.proofs.TableLemmas.{row_changed, row_read, row_set_read, row_there}
use Rattle.pidalloc.proofs.table.give_up_in.Goals as goal

pub get-row-requires : goal.get-row-requires
get-row-requires c = row_there _ _ (counted_borne c.args.role _ c.requires)

pub give_up-requires : goal.give_up-requires
give_up-requires c = rw (row_read c.args.rows.now c.args.pid c.get-row.result c.get-row.ensures) c.requires

pub set-requires : goal.set-requires
set-requires c = row_there _ _ (counted_borne c.args.role _ c.requires)

pub returns-clause-rows : goal.returns-clause-rows
returns-clause-rows c = rw (c.set.ensures, c.give_up.ensures) (row_changed _ _ (one_less c.args.role) _ (row_there _ _ (counted_borne c.args.role _ c.requires)) c.get-row.ensures)

pub returns-clause-sizes : goal.returns-clause-sizes
returns-clause-sizes c = rw c.set.ensures (sizes_kept _ _ _)

pub returns-clause-free : goal.returns-clause-free
returns-clause-free c = c.is_free.ensures ∙ sym (ap is_free_row (row_set_read _ _ _ _ c.set.ensures (row_there _ _ (counted_borne c.args.role _ c.requires))))
