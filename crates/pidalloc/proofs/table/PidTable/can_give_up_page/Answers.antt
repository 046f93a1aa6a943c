use Rattle.std.proofs.Common.{◌/◌, ap, sym, ◌∙◌, inr}
use Rattle.std.proofs.lemmas.Bool.{eqb-true, eqb-false}
use Rattle.pidalloc.proofs.TableLemmas.{borne_one, free_on}
use Rattle.pidalloc.proofs.table.PidTable.can_give_up_page.Goals as goal

pub returns-then-page-page_of-clause-free : goal.returns-then-page-page_of-clause-free
returns-then-page-page_of-clause-free c = λ e q same.
    let i = c.self.inside in
    rw (← c.self.view_is) (free_on i.pidmax c.page_of-page.result i.rows (sym (c.count_at.ensures ∙ c.self.invariant.counted c.page_of-page.result) ∙ eqb-true _ _ e) q (same ∙ sym (c.page_of-page.ensures ∙ ap (λ n. n / 1024) c.number.ensures.value)))

pub returns-then-page-page_of-clause-borne : goal.returns-then-page-page_of-clause-borne
returns-then-page-page_of-clause-borne c = λ e.
    let i = c.self.inside in
    let it = borne_one i.pidmax c.page_of-page.result i.rows c.self.invariant.beyond (λ none. eqb-false _ _ e (c.count_at.ensures ∙ c.self.invariant.counted c.page_of-page.result ∙ none)) in
    inr (it.0, it.1 ∙ c.page_of-page.ensures ∙ ap (λ n. n / 1024) c.number.ensures.value, rw (← c.self.view_is) it.2)
