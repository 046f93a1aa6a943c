use Rattle.std.proofs.Common.{◌∙◌, ◌/◌}
use Rattle.pidset.proofs.ItemLemmas.{behind_place}
use Rattle.pidset.proofs.PageLemmas.{later_page}
use Rattle.pidset.proofs.pages.page_behind.Goals as goal

pub returns-clause-is : goal.returns-clause-is
returns-clause-is g c = c.behind.ensures ∙ behind_place (λ p. p.number) c.args.pages.now c.requires.rising (c.args.pid / 64) c.index_of.result c.index_of.ensures.found c.index_of.ensures.absent

pub returns-clause-page : goal.returns-clause-page
returns-clause-page g c = rw (returns-clause-is g c) (later_page (c.args.pid / 64) c.args.pages.now c.requires.used)
