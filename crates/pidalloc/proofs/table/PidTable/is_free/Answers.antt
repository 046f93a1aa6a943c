use Rattle.std.proofs.Common.{ap, sym, ◌∙◌}
use Rattle.pidalloc.specs.Rows.{is_free_row}
use Rattle.pidalloc.proofs.BoundLemmas.{free_of}
use Rattle.pidalloc.proofs.TableLemmas.{absent, row_read}
use Rattle.pidalloc.proofs.table.PidTable.is_free.Goals as goal

pub returns-then-not-has : goal.returns-then-not-has
returns-then-not-has c = λ l. rw (← c.self.view_is, c.if-not-has.true, free_of c.self.inside.pidmax c.self.inside.rows c.args.pid (rw (← c.self.view_is) at l)) (sym (absent c.self.inside.rows c.args.pid (sym c.has.ensures ∙ c.if-not-has.true)))

pub returns-else-not-has : goal.returns-else-not-has
returns-else-not-has c = λ l. rw (← c.self.view_is, free_of c.self.inside.pidmax c.self.inside.rows c.args.pid (rw (← c.self.view_is) at l)) (c.is_free.ensures ∙ ap is_free_row (row_read _ _ _ c.get.ensures))
