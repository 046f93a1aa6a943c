use Rattle.std.proofs.Common.{◌/◌, ◌≤◌, ◌∙◌, sym, subst, arith, rules, refl, None}
use Rattle.std.proofs.lemmas.Bool.{eqb-true}
use Rattle.std.proofs.lemmas.Bool.Decides.{nat_tests}
use Rattle.std.proofs.lemmas.List.{get_or-set_same}
use Rattle.pidset.specs.Pages.{IsUnused, AreChanged}
use Rattle.pidset.proofs.ItemLemmas.{at_below}
use Rattle.pidset.proofs.PageLemmas.{page_set, page_stays, page_goes}
use Rattle.pidset.proofs.pages.take_at.Goals as goal

pub returns-then-is_unused : goal.returns-then-is_unused
returns-then-is_unused g c =
    let ps = c.args.pages.now.items in
    let new = c.take-value.new.self in
    let e = c.take-value.ensures in
    let h = page_set ps c.args.pid c.args.at c.place_of.result c.index_mut-page.result.now new None c.requires.pages c.requires.at c.index_mut-page.ensures.value c.place_of.ensures.is e.number e.values in
    let free : IsUnused new = record { page = e.page; unused = eqb-true _ _ (sym c.is_unused.ensures ∙ c.if-is_unused.true) } in
    record {
      value = e.value ∙ h.was;
      changed = subst (AreChanged c.args.pid None ps) (sym c.remove.ensures.items) (page_goes ps c.args.pid c.args.at c.place_of.result c.index_mut-page.result.now new c.requires.pages c.requires.at h free);
      spare = subst IsUnused (sym (c.remove.ensures.value ∙ get_or-set_same ps c.args.at new c.remove.result (at_below (λ p. p.number) ps (c.args.pid / 64) c.args.at c.requires.at))) free;
      stays = λ _. refl;
      len = search rules;
      capacity = search rules;
    }

pub returns-else-is_unused : goal.returns-else-is_unused
returns-else-is_unused g c =
    let ps = c.args.pages.now.items in
    let new = c.take-value.new.self in
    let e = c.take-value.ensures in
    let h = page_set ps c.args.pid c.args.at c.place_of.result c.index_mut-page.result.now new None c.requires.pages c.requires.at c.index_mut-page.ensures.value c.place_of.ensures.is e.number e.values in
    let used : 1 ≤ new.used = grind (arith, nat_tests, c.is_unused.ensures, c.if-is_unused.false) in
    record {
      value = e.value ∙ h.was;
      changed = page_stays ps c.args.pid c.args.at c.place_of.result c.index_mut-page.result.now new None c.requires.pages h (record { page = e.page; used = used });
      spare = c.requires.spare;
      stays = λ e. e;
      len = search rules;
      capacity = search rules;
    }
