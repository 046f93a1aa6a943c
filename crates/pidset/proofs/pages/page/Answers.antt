use Rattle.std.proofs.Common.{◌/◌, sym}
use Rattle.pidset.proofs.ItemLemmas.{find_point}
use Rattle.pidset.proofs.PageLemmas.{page_there, page_used}
use Rattle.pidset.proofs.pages.page.Goals as goal

pub returns-in-Ok-clause-is : goal.returns-in-Ok-clause-is
returns-in-Ok-clause-is g c = sym (page_there c.args.pages.now (c.args.pid / 64) c.in-Ok.at c.index-pages-at.result c.requires c.in-Ok.ensures.found c.index-pages-at.is)

pub returns-in-Ok-clause-page : goal.returns-in-Ok-clause-page
returns-in-Ok-clause-page g c =
    let there = page_there c.args.pages.now (c.args.pid / 64) c.in-Ok.at c.index-pages-at.result c.requires c.in-Ok.ensures.found c.index-pages-at.is in
    let used = page_used (c.args.pid / 64) c.args.pages.now c.index-pages-at.result c.requires.used there in
    (used.0.page, used.1)

pub returns-in-Err-clause-is : goal.returns-in-Err-clause-is
returns-in-Err-clause-is g c = sym (find_point (λ p. p.number) c.args.pages.now c.requires.rising (c.args.pid / 64) c.in-Err.field-0 c.in-Err.ensures.absent)
