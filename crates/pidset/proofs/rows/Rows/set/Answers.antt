use Rattle.std.proofs.Common.{refl}
use Rattle.pidset.proofs.RowLemmas.{set_in}
use Rattle.pidset.proofs.rows.Rows.set.Goals as goal

pub returns : goal.returns
returns g c = set_in (λ page. page.items) c.self.inside.pages.items c.args.self.now c.args.pid c.page_of.result c.place_of.result c.index_mut.result.now _ c.args.row c.self.view_is c.requires c.page_of.ensures c.place_of.ensures.is c.index_mut.ensures.value refl
