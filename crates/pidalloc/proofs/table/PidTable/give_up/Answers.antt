use Rattle.std.proofs.Common.{◌∙◌, ◌/◌, ◌≤◌, ap, sym, length-set, refl, inl, inr, arith}
use Rattle.std.proofs.lemmas.List.{get_or_default}
use Rattle.pidalloc.specs.Rows.{one_less, row_in}
use Rattle.pidalloc.proofs.CountLemmas.{follows_less, follows_still}
use Rattle.pidalloc.proofs.RowLemmas.{counted_borne}
use Rattle.pidalloc.proofs.TableLemmas.{count_some, pids_given_up, pids_of, row_of, table_changed}
use Rattle.pidalloc.proofs.table.PidTable.give_up.Goals as goal

pub give_up_in-requires : goal.give_up_in-requires
give_up_in-requires c = rw (← row_of c.self.inside.pidmax c.self.inside.rows c.args.pid (rw (← c.self.view_is) at c.requires.range)) (rw (← c.self.view_is) at c.requires.count)

pub invariant_of-self : goal.invariant_of-self
invariant_of-self c =
    let i = c.self.inside in
    let was = counted_borne c.args.role (row_in c.self.inside.rows c.args.pid) (rw (← row_of i.pidmax i.rows c.args.pid (rw (← c.self.view_is) at c.requires.range)) (rw (← c.self.view_is) at c.requires.count)) in
    let is = sym c.give_up_in.ensures.free ∙ c.if-not-give_up_in.true in
    table_changed i.pidmax i.last i.last c.args.pid (one_less c.args.role) i.rows c.give_up_in.new.rows i.counts.items i.counts.items i.borne_below i.borne_from i.borne_below i.borne_from c.self.invariant (rw (← c.self.view_is) at c.requires.range) c.give_up_in.ensures.rows (follows_still c.args.pid i.rows c.give_up_in.new.rows i.counts.items was is) c.self.invariant.given (omega arith) (omega arith) (inl is)

pub returns-then-not-give_up_in-clause-value : goal.returns-then-not-give_up_in-clause-value
returns-then-not-give_up_in-clause-value c =
    let i = c.self.inside in
    pids_given_up i.pidmax i.last c.args.pid c.args.role i.rows c.give_up_in.new.rows i.counts.items i.counts.items c.args.self.now c.self.view_is (rw (← c.self.view_is) at c.requires.range) c.give_up_in.ensures.rows c.give_up_in.ensures.sizes refl

pub index_mut-requires : goal.index_mut-requires
index_mut-requires c =
    let i = c.self.inside in
    let it = (count_some i.pidmax i.last c.args.pid c.page_of.result i.rows i.counts.items i.borne_below i.borne_from c.self.invariant (c.page_of.ensures ∙ ap (λ n. n / 1024) c.number-number.ensures.value) (counted_borne c.args.role (row_in c.self.inside.rows c.args.pid) (rw (← row_of i.pidmax i.rows c.args.pid (rw (← c.self.view_is) at c.requires.range)) (rw (← c.self.view_is) at c.requires.count)))).0 in
    grind (arith, it)

pub overflow_sub-index_mut : goal.overflow_sub-index_mut
overflow_sub-index_mut c =
    let i = c.self.inside in
    let it = count_some i.pidmax i.last c.args.pid c.page_of.result i.rows i.counts.items i.borne_below i.borne_from c.self.invariant (c.page_of.ensures ∙ ap (λ n. n / 1024) c.number-number.ensures.value) (counted_borne c.args.role (row_in c.self.inside.rows c.args.pid) (rw (← row_of i.pidmax i.rows c.args.pid (rw (← c.self.view_is) at c.requires.range)) (rw (← c.self.view_is) at c.requires.count))) in
    rw (c.index_mut.ensures.value ∙ get_or_default i.counts.items c.page_of.result c.index_mut.result.now 0 it.0) it.1

pub invariant_of-self-2 : goal.invariant_of-self-2
invariant_of-self-2 c =
    let i = c.self.inside in
    let l = rw (← c.self.view_is) at c.requires.range in
    let at = c.page_of.ensures ∙ ap (λ n. n / 1024) c.number-number.ensures.value in
    let was = counted_borne c.args.role (row_in c.self.inside.rows c.args.pid) (rw (← row_of i.pidmax i.rows c.args.pid l) (rw (← c.self.view_is) at c.requires.count)) in
    let it = count_some i.pidmax i.last c.args.pid c.page_of.result i.rows i.counts.items i.borne_below i.borne_from c.self.invariant at was in
    let some : 1 ≤ c.index_mut.result.now = rw (c.index_mut.ensures.value ∙ get_or_default i.counts.items c.page_of.result c.index_mut.result.now 0 it.0) it.1 in
    let follows = follows_less c.args.pid c.page_of.result c.index_mut.result.now i.rows c.give_up_in.new.rows i.counts.items at it.0 c.index_mut.ensures.value some was (sym c.give_up_in.ensures.free ∙ c.if-not-give_up_in.false) in
    let number = c.number-number.ensures.value in
    let low = c.min-self-inside.ensures in
    let high = c.max-self-inside.ensures in
    table_changed i.pidmax i.last i.last c.args.pid (one_less c.args.role) i.rows c.give_up_in.new.rows i.counts.items _ i.borne_below i.borne_from _ _ c.self.invariant l c.give_up_in.ensures.rows follows c.self.invariant.given (omega (arith, low)) (omega (arith, high)) (inr (omega (arith, low, number), omega (arith, high, number)))

pub returns-clause-value : goal.returns-clause-value
returns-clause-value c =
    let i = c.self.inside in
    pids_given_up i.pidmax i.last c.args.pid c.args.role i.rows c.give_up_in.new.rows i.counts.items _ c.args.self.now c.self.view_is (rw (← c.self.view_is) at c.requires.range) c.give_up_in.ensures.rows c.give_up_in.ensures.sizes (length-set i.counts.items c.page_of.result _)

pub returns-then-not-give_up_in-clause-kept : goal.returns-then-not-give_up_in-clause-kept
returns-then-not-give_up_in-clause-kept c = pids_of _ _ _ _ _ _ (invariant_of-self c)

pub returns-clause-kept : goal.returns-clause-kept
returns-clause-kept c = pids_of _ _ _ _ _ _ (invariant_of-self-2 c)
