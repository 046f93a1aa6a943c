use Rattle.std.proofs.Common.{◌/◌, ◌∙◌, ap, sym, subst}
use Rattle.std.specs.Option.{option_map}
use Rattle.pidset.specs.Numbers.{IsNumberAt, IsInsertionPoint}
use Rattle.pidset.specs.Pages.{Entry, numbers_of, entries_of, entry, value_in}
use Rattle.pidset.proofs.ItemLemmas.{find_point, others_all}
use Rattle.pidset.proofs.PageLemmas.{value_pages, entries_taken, entry_pages}
use Rattle.pidset.proofs.pages.Pages.remove.Goals as goal

pub take_at-requires-clause-at : goal.take_at-requires-clause-at
take_at-requires-clause-at g c = subst (λ ps. IsNumberAt (numbers_of ps) (c.args.pid / 64) c.in-Ok.at) c.deref.ensures.value c.in-Ok.ensures.found

pub returns-in-Ok-clause-value : goal.returns-in-Ok-clause-value
returns-in-Ok-clause-value g c = rw (← c.self.view_is) (c.take_at.ensures.value ∙ sym (value_pages c.self.inside.pages.items c.args.pid c.self.invariant.0))

pub returns-in-Ok-clause-entries : goal.returns-in-Ok-clause-entries
returns-in-Ok-clause-entries g c = rw (← c.self.view_is) (entries_taken c.self.inside.pages.items c.take_at.new.pages.items c.args.pid c.self.invariant.0 c.take_at.ensures.changed)

pub returns-in-Err-clause-value : goal.returns-in-Err-clause-value
returns-in-Err-clause-value g c =
    let ps = c.self.inside.pages.items in
    let s = c.self.invariant.0 in
    let point = subst (λ ps. IsInsertionPoint (numbers_of ps) (c.args.pid / 64) c.in-Err.field-0) c.deref.ensures.value c.in-Err.ensures.absent in
    rw (← c.self.view_is) (sym (value_pages ps c.args.pid s ∙ ap (value_in c.args.pid) (find_point (λ p. p.number) ps s.rising (c.args.pid / 64) _ point)))

pub returns-in-Err-clause-entries : goal.returns-in-Err-clause-entries
returns-in-Err-clause-entries g c =
    let ps = c.self.inside.pages.items in
    let s = c.self.invariant.0 in
    let point = subst (λ ps. IsInsertionPoint (numbers_of ps) (c.args.pid / 64) c.in-Err.field-0) c.deref.ensures.value c.in-Err.ensures.absent in
    let none = entry_pages ps s.used s.rising c.args.pid ∙ ap (λ o. option_map (entry c.args.pid) (value_in c.args.pid o)) (find_point (λ p. p.number) ps s.rising (c.args.pid / 64) _ point) in
    rw (← c.self.view_is) (sym (others_all (λ (e : Entry _). e.pid) (entries_of ps) c.args.pid none))
