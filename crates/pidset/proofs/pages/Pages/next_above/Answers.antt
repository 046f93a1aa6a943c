use Rattle.std.proofs.Common.{◌≡◌, ◌/◌, ◌∙◌, ap, sym, refl, Option, None, Some, ℕ, false, is_some, filter, nat_lt, slice_get, arith}
use Rattle.std.specs.Option.{option_or, option_and_then}
use Rattle.pidset.specs.Pages.{page_of, first_above, entries_in}
use Rattle.pidset.proofs.PageLemmas.{first_pages, rises_pages}
use Rattle.pidset.proofs.pages.Pages.next_above.Goals as goal

far : (a b x y : Option ℕ) → is_some a ≡ false → a ≡ x → b ≡ y → b ≡ option_or x y
far None b x y s e f = rw (← e, ← f) refl
far (Some n) b x y s e f = absurd (cc)

pub returns-then-is_some-clause-value : goal.returns-then-is_some-clause-value
returns-then-is_some-clause-value g c = rw (← c.self.view_is) (grind (arith, first_pages c.self.inside.pages.items c.self.invariant.0.used c.self.invariant.0.rising c.args.after))

pub returns-then-is_some-clause-rising : goal.returns-then-is_some-clause-rising
returns-then-is_some-clause-rising g c = rw (← c.self.view_is) (rises_pages c.self.inside.pages.items c.self.invariant.0.used c.self.invariant.0.rising)

pub returns-clause-value : goal.returns-clause-value
returns-clause-value g c =
    let n = c.args.after in
    let near = c.next_in-near.ensures ∙ ap (option_and_then (λ p. first_above n (entries_in p))) (c.page.ensures.is ∙ ap (page_of (n / 64)) c.deref.ensures.value) in
    let rest = c.next_in.ensures ∙ ap (option_and_then (λ p. first_above n (entries_in p))) (c.page_behind.ensures.is ∙ ap (λ ps. slice_get (filter (λ p. nat_lt (n / 64) p.number) ps) 0) c.deref-2.ensures.value) in
    rw (← c.self.view_is) (far _ _ _ _ (sym c.is_some.ensures ∙ c.if-is_some.false) near rest ∙ sym (first_pages c.self.inside.pages.items c.self.invariant.0.used c.self.invariant.0.rising n))

pub returns-clause-rising : goal.returns-clause-rising
returns-clause-rising g c = rw (← c.self.view_is) (rises_pages c.self.inside.pages.items c.self.invariant.0.used c.self.invariant.0.rising)
