use Rattle.std.proofs.Common.{arith}
use Rattle.pidset.proofs.PageLemmas.{value_pages}
use Rattle.pidset.proofs.pages.Pages.get.Goals as goal

pub get-requires-clause-page : goal.get-requires-clause-page
get-requires-clause-page g c = c.in-Some.ensures.page.0

pub returns-in-Some : goal.returns-in-Some
returns-in-Some g c = rw (← c.self.view_is) (grind (arith, value_pages c.self.inside.pages.items c.args.pid c.self.invariant.0))

pub returns-in-None : goal.returns-in-None
returns-in-None g c = rw (← c.self.view_is) (grind (arith, value_pages c.self.inside.pages.items c.args.pid c.self.invariant.0))
