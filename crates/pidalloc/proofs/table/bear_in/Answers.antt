use Rattle.std.proofs.Common.{ap, ◌∙◌}
use Rattle.pidalloc.specs.Rows.{is_free_row, one_more}
use Rattle.pidset.proofs.RowLemmas.{sizes_kept}
use Rattle.pidalloc.proofs.TableLemmas.{row_changed, row_read}
use Rattle.pidalloc.proofs.table.bear_in.Goals as goal

pub bear-requires : goal.bear-requires
bear-requires c = rw (row_read c.args.rows.now c.args.pid c.get-row.result c.get-row.ensures) c.requires.count

pub returns-clause-rows : goal.returns-clause-rows
returns-clause-rows c = rw (c.set.ensures, c.bear.ensures) (row_changed _ _ (one_more c.args.role) _ c.requires.there c.get-row.ensures)

pub returns-clause-sizes : goal.returns-clause-sizes
returns-clause-sizes c = rw c.set.ensures (sizes_kept _ _ _)

pub returns-clause-free : goal.returns-clause-free
returns-clause-free c = c.is_free-was_free.ensures ∙ ap is_free_row (row_read c.args.rows.now c.args.pid c.get-row.result c.get-row.ensures)
