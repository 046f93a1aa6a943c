use Rattle.std.proofs.Common.{◌/◌, ◌∙◌, sym, subst}
use Rattle.std.specs.Option.{IfSome}
use Rattle.pidset.specs.Numbers.{IsNumberAt, IsInsertionPoint}
use Rattle.pidset.specs.Pages.{numbers_of, IsUnused}
use Rattle.pidset.proofs.PageLemmas.{no_entry, entries_put}
use Rattle.pidset.proofs.pages.Pages.put.Goals as goal

pub put_at-requires-clause-at : goal.put_at-requires-clause-at
put_at-requires-clause-at g c = subst (λ ps. IsNumberAt (numbers_of ps) (c.args.pid / 64) c.in-Ok.at) c.deref.ensures.value c.in-Ok.ensures.found

pub put_at-requires-clause-absent : goal.put_at-requires-clause-absent
put_at-requires-clause-absent g c = no_entry c.self.inside.pages.items c.args.pid c.self.invariant.0 (rw (← c.self.view_is) at c.requires.absent)

pub lay-requires-clause-at : goal.lay-requires-clause-at
lay-requires-clause-at g c = subst (λ ps. IsInsertionPoint (numbers_of ps) (c.args.pid / 64) c.in-Err.at) c.deref.ensures.value c.in-Err.ensures.absent

pub lay-requires-clause-unused : goal.lay-requires-clause-unused
lay-requires-clause-unused g c = subst (λ o. IfSome o IsUnused) (sym c.take.ensures.value ∙ c.in-Some.is) c.self.invariant.1

pub returns-in-Ok : goal.returns-in-Ok
returns-in-Ok g c =
    let none = rw (← c.self.view_is) at c.requires.absent in
    rw (← c.self.view_is) (entries_put c.self.inside.pages.items c.put_at.new.pages.items c.args.pid c.args.value c.self.invariant.0 none c.put_at.ensures)

pub returns-in-Some : goal.returns-in-Some
returns-in-Some g c =
    let none = rw (← c.self.view_is) at c.requires.absent in
    rw (← c.self.view_is) (entries_put c.self.inside.pages.items c.lay.new.pages.items c.args.pid c.args.value c.self.invariant.0 none c.lay.ensures)
