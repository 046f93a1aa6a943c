use Rattle.std.proofs.Common.{◌∙◌, ap, sym, Some}
use Rattle.pidset.specs.Pages.{value_at, value_in}
use Rattle.pidset.proofs.PageLemmas.{page_there, page_set, page_stays}
use Rattle.pidset.proofs.pages.put_at.Goals as goal

pub put-requires-clause-absent : goal.put-requires-clause-absent
put-requires-clause-absent g c =
    let p = c.index_mut.result.now in
    let there = page_there c.args.pages.now.items _ c.args.at p c.requires.pages c.requires.at c.index_mut.ensures.value in
    ap (value_at p.values.items) c.place_of.ensures.is ∙ sym (ap (value_in c.args.pid) there) ∙ c.requires.absent

pub returns : goal.returns
returns g c =
    let e = c.put.ensures in
    page_stays c.args.pages.now.items c.args.pid c.args.at c.place_of.result c.index_mut.result.now c.put.new.self (Some c.args.value) c.requires.pages
    (page_set c.args.pages.now.items c.args.pid c.args.at c.place_of.result c.index_mut.result.now c.put.new.self (Some c.args.value) c.requires.pages c.requires.at c.index_mut.ensures.value c.place_of.ensures.is e.number e.values) (record { page = e.page; used = e.used })
