use Rattle.std.proofs.Common.{◌+◌, ◌*◌, ◌<◌, sym, ap, ◌∙◌, arith, is_some, inl, inr}
use Rattle.std.proofs.lemmas.List.{get_or_default}
use Rattle.std.proofs.lemmas.Bool.{cases_lt}
use Rattle.posix.proofs.RangeLemmas.{is_that}
use Rattle.pidset.proofs.PageLemmas.{above_some, above_none}
use Rattle.pidset.proofs.page.Page.next_above.Goals as goal

pub returns-then-is_some : goal.returns-then-is_some
returns-then-is_some g c =
    let p = c.args.self.now in
    let at = c.loop-at.at in
    let size = c.requires.page.size in
    let number = c.requires.page.number in
    let inside : at < 64 = omega (arith, c.loop-at-test.true, c.requires.page.end) in
    let here = get_or_default p.values.items at _ c.index.result.now (omega (arith, inside, size)) ∙ sym c.index.ensures in
    is_that _ (p.number * 64 + at) (c.new.ensures.some.1 (omega (arith, inside, number))) c.new.ensures.value
    ∙ sym (above_some c.args.after (p.number * 64) at p.values.items c.loop-at.invariant.none c.loop-at.invariant.above (ap is_some here ∙ sym c.is_some.ensures ∙ c.if-is_some.true))

pub returns : goal.returns
returns g c =
    let p = c.args.self.now in
    sym (above_none c.args.after (p.number * 64) p.values.items (λ i l m. elim (cases_lt i c.loop-at.at) [
      | inl low ↦ c.loop-at.invariant.none i low m
      | inr high ↦ c.requires.page.none i (omega (arith, high, c.loop-at-test.false))
    ]))
