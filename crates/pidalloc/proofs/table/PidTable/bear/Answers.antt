use Rattle.std.proofs.Common.{◌∙◌, ◌/◌, ap, sym, inl, arith}
use Rattle.pidalloc.specs.Rows.{last_given, one_more}
use Rattle.pidalloc.proofs.CountLemmas.{follows_more}
use Rattle.pidalloc.proofs.TableLemmas.{borne_rows, count_ready, count_small, given_within, newly_borne, pids_borne, pids_of, row_of, row_ready, still_rows, table_changed}
use Rattle.pidalloc.proofs.table.PidTable.bear.Goals as goal

pub bear_in-was_free-requires-clause-there : goal.bear_in-was_free-requires-clause-there
bear_in-was_free-requires-clause-there c =
    let i = c.self.inside in
    row_ready i.pidmax c.args.pid i.rows i.counts.items (rw (← c.self.view_is) at c.requires.range) (rw (← c.self.view_is) at c.requires.room)

pub bear_in-was_free-requires-clause-count : goal.bear_in-was_free-requires-clause-count
bear_in-was_free-requires-clause-count c = rw (← row_of c.self.inside.pidmax c.self.inside.rows c.args.pid (rw (← c.self.view_is) at c.requires.range)) (rw (← c.self.view_is) at c.requires.count)

pub count_borne-requires-clause-inside : goal.count_borne-requires-clause-inside
count_borne-requires-clause-inside c = λ e.
    let i = c.self.inside in
    count_ready i.pidmax c.args.pid c.page_of.result i.rows i.counts.items (rw (← c.self.view_is) at c.requires.range) (rw (← c.self.view_is) at c.requires.room) (c.page_of.ensures ∙ ap (λ n. n / 1024) c.number-number.ensures.value) (sym c.bear_in-was_free.ensures.free ∙ e)

pub count_borne-requires-clause-few : goal.count_borne-requires-clause-few
count_borne-requires-clause-few c = count_small _ _ _ _ _ _ _ c.self.invariant

pub invariant_of-self : goal.invariant_of-self
invariant_of-self c =
    let i = c.self.inside in
    let l = rw (← c.self.view_is) at c.requires.range in
    let change = c.bear_in-was_free.ensures.rows in
    let is = newly_borne c.args.role _ _ _ change in
    let follows = follows_more c.args.pid c.page_of.result i.rows c.bear_in-was_free.new.rows i.counts.items c.count_borne.new.counts.items c.bear_in-was_free.result (c.page_of.ensures ∙ ap (λ n. n / 1024) c.number-number.ensures.value) c.bear_in-was_free.ensures.free is c.count_borne.ensures.counts in
    let number = c.number-number.ensures.value in
    table_changed i.pidmax i.last _ c.args.pid (one_more c.args.role) i.rows c.bear_in-was_free.new.rows i.counts.items c.count_borne.new.counts.items i.borne_below i.borne_from _ _ c.self.invariant l change follows (rw c.given-self-inside.ensures (given_within c.args.role _ i.last i.pidmax (omega (arith, number, l)) c.self.invariant.given)) (omega arith) (omega arith) (inl is)

pub returns-clause-value : goal.returns-clause-value
returns-clause-value c =
    let i = c.self.inside in
    let last = c.given-self-inside.ensures ∙ ap (λ n. last_given c.args.role n i.last) c.number-number.ensures.value in
    rw last (pids_borne i.pidmax i.last c.args.pid c.args.role i.rows c.bear_in-was_free.new.rows i.counts.items c.count_borne.new.counts.items c.args.self.now c.self.view_is (rw (← c.self.view_is) at c.requires.range) c.bear_in-was_free.ensures.rows c.bear_in-was_free.ensures.sizes c.count_borne.ensures.size)

pub returns-clause-borne : goal.returns-clause-borne
returns-clause-borne c = borne_rows _ _ _ _ _ (rw (← c.self.view_is) at c.requires.range) c.bear_in-was_free.ensures.rows

pub returns-clause-others : goal.returns-clause-others
returns-clause-others c = λ q e. still_rows _ _ q _ _ _ (rw (← c.self.view_is) at c.requires.range) c.bear_in-was_free.ensures.rows (rw (← c.self.view_is) at e)

pub returns-clause-kept : goal.returns-clause-kept
returns-clause-kept c = pids_of _ _ _ _ _ _ (invariant_of-self c)
