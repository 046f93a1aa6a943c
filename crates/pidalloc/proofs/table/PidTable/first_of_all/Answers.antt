use Rattle.std.proofs.Common.{◌≡◌, ◌-◌, subst, sym, ◌∙◌, arith}
use Rattle.posix.specs.Common.{first_free}
use Rattle.pidalloc.specs.Rows.{is_free_in, rows_in, AreAllBorne}
use Rattle.pidalloc.proofs.BoundLemmas.{first_from, borne_to_found, borne_to_end}
use Rattle.pidalloc.proofs.table.PidTable.first_of_all.Goals as goal
use Rattle.pidalloc.proofs.table.PidTable.first_of_all.Goals.{in-Some, in-None}

found : (c : goal.After-self-1) → first_free (is_free_in (rows_in c.self.inside.pidmax c.self.inside.rows)) 2 (c.self.inside.pidmax - 1) ≡ c.first_free-pid.result
found c =
    let v = c.self.invariant in
    let start = c.max.ensures in
    sym (first_from c.self.inside.pidmax c.max.result c.self.inside.rows (omega (arith, start)) (omega (arith, start, v.bound, v.least)) (λ k lo hi. v.low k lo (omega (arith, start, lo, hi))))
    ∙ rw (← c.self.view_is) at (sym c.first_free-pid.ensures)

pub invariant_of-self : goal.invariant_of-self
invariant_of-self c =
    let i = c.self.inside in
    let v = c.self.invariant in
    elim c.match-pid.branch [
      | in-Some w ↦
          let same = w.self-is ∙ w.number-self-inside.ensures.value in
          let b = borne_to_found i.pidmax w.in-Some.pid i.rows v.least (found c ∙ w.in-Some.is) in
          record { given = v.given; least = v.least; limit = v.limit; counted = v.counted; bound = rw same b.0; low = subst (AreAllBorne i.rows 2) (sym same) b.1; high = v.high; beyond = v.beyond }
      | in-None w ↦
          let end = w.self-is in
          record { given = v.given; least = v.least; limit = v.limit; counted = v.counted; bound = omega (arith, end); low = subst (AreAllBorne i.rows 2) (sym end) (borne_to_end i.pidmax i.rows v.least (found c ∙ w.in-None.is)); high = v.high; beyond = v.beyond }
    ]

pub returns-clause-value : goal.returns-clause-value
returns-clause-value c = rw (← c.self.view_is) (elim c.match-pid.branch [
  | in-Some w ↦ w.pid-is ∙ sym w.in-Some.is ∙ sym (found c)
  | in-None w ↦ w.pid-is ∙ sym (found c)
])
