use Rattle.std.proofs.Common.{sym, ap, ◌∙◌, Some, inl, inr, arith}
use Rattle.std.proofs.lemmas.Bool.{cases_eq, cases_lt}
use Rattle.pidalloc.specs.Rows.{is_free_in}
use Rattle.posix.proofs.RangeLemmas.{find_range_first, find_range_none}
use Rattle.pidalloc.proofs.TableLemmas.{all_borne}
use Rattle.pidalloc.proofs.table.PidTable.first_free.Goals as goal

pub loop-at-preserved-then-count_at-eq1024 : goal.loop-at-preserved-then-count_at-eq1024
loop-at-preserved-then-count_at-eq1024 c =
    let m = ap (λ t. t.pidmax) c.self.view_is in
    let i = c.self.inside in
    let walk = c.loop-at.invariant in
    let from = walk.from in
    let limit = c.self.invariant.limit in
    let here = c.loop-at-test.true in
    let full = sym (c.self.invariant.counted c.page_of.result) ∙ sym c.count_at.ensures ∙ c.if-count_at-eq1024.true in
    record {
      from = omega (arith, from);
      high = omega (arith, limit, here, m);
      borne = λ k lo hi top. elim (cases_lt k c.loop-at.at) [
        | inl before ↦ walk.borne k lo before top
        | inr behind ↦ rw (← c.self.view_is) (all_borne i.pidmax c.page_of.result i.rows full k (let page = c.page_of.ensures in omega (arith, page, hi, behind)) (rw (← c.self.view_is) at top))
      ];
    }

pub returns-then-is_free : goal.returns-then-is_free
returns-then-is_free c =
    let m = ap (λ t. t.pidmax) c.self.view_is in
    let walk = c.loop-at.invariant in
    let from = walk.from in
    let here = c.loop-at-test.true in
    let is = c.in_ok-pid.ensures.value in
    ap Some is
    ∙ sym (find_range_first (is_free_in c.args.self.now.rows) c.args.from _ c.loop-at.at from (omega (arith, here, m, from)) (λ k low up. walk.borne k low up (omega (arith, up, here, m))) (ap (is_free_in c.args.self.now.rows) (sym is) ∙ sym (c.is_free.ensures (omega (arith, here, m, is))) ∙ c.if-is_free.true))

pub loop-at-preserved : goal.loop-at-preserved
loop-at-preserved c =
    let m = ap (λ t. t.pidmax) c.self.view_is in
    let walk = c.loop-at.invariant in
    let from = walk.from in
    let limit = c.self.invariant.limit in
    let here = c.loop-at-test.true in
    let is = c.in_ok-pid.ensures.value in
    record {
      from = omega (arith, from);
      high = omega (arith, limit, here, m);
      borne = λ k lo hi top. elim (cases_eq k c.loop-at.at) [
        | inl same ↦ rw (same, ← is) (sym (c.is_free.ensures (omega (arith, here, m, is))) ∙ c.if-is_free.false)
        | inr ne ↦ walk.borne k lo (omega (arith, hi, ne)) top
      ];
    }

pub returns : goal.returns
returns c =
    let m = ap (λ t. t.pidmax) c.self.view_is in
    sym (find_range_none (is_free_in c.args.self.now.rows) c.args.from _ (λ k low up. c.loop-at.invariant.borne k low (omega arith) (omega arith)))
