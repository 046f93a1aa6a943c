use Rattle.std.proofs.Common.{ap, sym, ◌∙◌}
use Rattle.std.specs.Prelude.{is_some}
use Rattle.pidset.proofs.RowLemmas.{left_in, left_none}
use Rattle.pidset.proofs.rows.Rows.give_up_page.Goals.{in-Some, in_default}
use Rattle.pidset.proofs.rows.Rows.give_up_page.Goals as goal

pub returns : goal.returns
returns g c = elim c.match-get_mut.branch [
  | in-Some w ↦ rw w.self-inside-is (left_in (λ page. page.items) c.self.inside.pages.items c.args.self.now c.args.pid c.page_of.result w.new.result c.self.view_is c.page_of.ensures w.new.ensures.items)
  | in_default w ↦ rw w.self-inside-is (left_none (λ page. page.items) c.self.inside.pages.items c.args.self.now c.args.pid c.page_of.result c.self.view_is c.page_of.ensures (sym c.get_mut.ensures.item.0 ∙ ap is_some w.in_default.is))
]
