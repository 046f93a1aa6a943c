use Rattle.std.proofs.Common.{arith, ◌≡◌, ◌+◌, None, sym, ◌∙◌}
use Rattle.pidalloc.proofs.BoundLemmas.{none_above, borne_from_none}
use Rattle.pidalloc.proofs.table.PidTable.first_above_last.Goals as goal

pub returns-then-self-from-clause-value : goal.returns-then-self-from-clause-value
returns-then-self-from-clause-value c =
    let i = c.self.inside in
    rw (← c.self.view_is) (sym (none_above i.pidmax i.last i.borne_from i.rows c.self.invariant.given c.if-self-from.true c.self.invariant.high))

pub invariant_of-self : goal.invariant_of-self
invariant_of-self c =
    let i = c.self.inside in
    let v = c.self.invariant in
    let none : c.first_free-pid.result ≡ None = grind arith in
    record { given = v.given; least = v.least; limit = v.limit; counted = v.counted; bound = v.bound; low = v.low; high = borne_from_none i.pidmax (i.last + 1) i.rows (rw (← c.self.view_is) at (sym c.first_free-pid.ensures ∙ none)); beyond = v.beyond }
