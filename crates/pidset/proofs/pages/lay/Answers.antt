use Rattle.std.proofs.Common.{◌∙◌, sym, subst, Some}
use Rattle.pidset.specs.Pages.{AreChanged}
use Rattle.pidset.proofs.PageLemmas.{page_laid}
use Rattle.pidset.proofs.pages.lay.Goals as goal

pub returns : goal.returns
returns g c =
    let ps = c.args.pages.now.items in
    let e = c.put.ensures in
    subst (AreChanged c.args.pid (Some c.args.value) ps) (sym c.insert_at.ensures.items) (page_laid ps c.args.pid c.args.at c.place_of.result c.renumber.new.self c.put.new.self c.args.value c.requires.pages c.requires.at c.renumber.ensures.unused
    (record { page = e.page; used = e.used }) c.place_of.ensures.is (e.number ∙ c.renumber.ensures.number ∙ c.page_of.ensures.is) e.values)
