use Rattle.std.proofs.Common.{ap, ◌∙◌}
use Rattle.std.proofs.lemmas.Result.{on_ok_weaker}
use Rattle.pidset.specs.Rows.{page_at}
use Rattle.pidset.proofs.RowLemmas.{grown, room_made}
use Rattle.pidset.proofs.rows.Rows.grow.Goals as goal

pub returns-clause-room : goal.returns-clause-room
returns-clause-room g c = on_ok_weaker c.make_rows.result (room_made (λ page. page.items) c.make_pages.new.pages.items c.args.pid c.page_of-at.result c.place_of.result c.make_rows.new.page c.page_of-at.ensures c.place_of.ensures.is c.in_ok-make_pages.ensures.there) c.make_rows.ensures.room

pub returns-clause-grows : goal.returns-clause-grows
returns-clause-grows g c = (grown (λ page. page.items) c.args.row c.args.self.now c.make_pages.new.pages.items c.page_of-at.result c.index_mut.result.now c.make_rows.new.page (λ k. c.make_pages.ensures.same k ∙ ap (λ pages. page_at pages k) c.self.view_is) c.index_mut.ensures.value c.in_ok-make_pages.ensures.there c.make_rows.ensures.grows c.make_rows.ensures.rows).grows

pub returns-clause-rows : goal.returns-clause-rows
returns-clause-rows g c = (grown (λ page. page.items) c.args.row c.args.self.now c.make_pages.new.pages.items c.page_of-at.result c.index_mut.result.now c.make_rows.new.page (λ k. c.make_pages.ensures.same k ∙ ap (λ pages. page_at pages k) c.self.view_is) c.index_mut.ensures.value c.in_ok-make_pages.ensures.there c.make_rows.ensures.grows c.make_rows.ensures.rows).rows
