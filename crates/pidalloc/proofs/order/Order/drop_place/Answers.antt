use Rattle.std.proofs.Common.{ap, sym, ◌∙◌, arith}
use Rattle.posix.proofs.OrderLemmas.{one_less, without_absent}
use Rattle.pidset.specs.Rows.{sizes_of}
use Rattle.pidset.proofs.RowLemmas.{row_kept, sizes_kept}
use Rattle.pidalloc.specs.Places.{Places}
use Rattle.pidalloc.proofs.RingLemmas.{inside, next_row, prev_row, known, read, kept, order_dropped}
use Rattle.pidalloc.proofs.order.Order.drop_place.Goals as goal

pub returns-then-not-has-clause-pids : goal.returns-then-not-has-clause-pids
returns-then-not-has-clause-pids c = sym (without_absent _ _ (sym c.if-not-has.ensures))

pub get-prev-requires : goal.get-prev-requires
get-prev-requires c = inside _ _ _ (known _ _ _ _ c.self.invariant c.self.view_is).kept c.args.pid (sym c.if-not-has.ensures)

pub join-requires : goal.join-requires
join-requires c =
    let k = (known _ _ _ _ c.self.invariant c.self.view_is).kept in
    record { prev_inside = prev_row _ _ _ k c.args.pid _ (sym c.if-not-has.ensures) (c.get-prev.ensures _); next_inside = next_row _ _ _ k c.args.pid _ (sym c.if-not-has.ensures) (c.get-prev.ensures _) }

pub set-requires : goal.set-requires
set-requires c = row_kept _ _ c.args.pid c.join.ensures.sizes (inside _ _ _ (known _ _ _ _ c.self.invariant c.self.view_is).kept c.args.pid (sym c.if-not-has.ensures))

pub overflow_sub-self : goal.overflow_sub-self
overflow_sub-self c =
    let o = known _ _ _ _ c.self.invariant c.self.view_is in
    omega (arith, o.count, one_less _ _ o.kept.distinct (sym c.if-not-has.ensures))

pub invariant_of-self : goal.invariant_of-self
invariant_of-self c = kept _ _ _ _ (order_dropped _ _ _ _ _ _ _ _ _ (known _ _ _ _ c.self.invariant c.self.view_is) (sym c.if-not-has.ensures) (c.get-prev.ensures _) c.join.ensures c.set.ensures c.first_without-self-inside.ensures)

pub returns-clause-pids : goal.returns-clause-pids
returns-clause-pids c = read _ _ _ _ (order_dropped _ _ _ _ _ _ _ _ _ (known _ _ _ _ c.self.invariant c.self.view_is) (sym c.if-not-has.ensures) (c.get-prev.ensures _) c.join.ensures c.set.ensures c.first_without-self-inside.ensures)

pub returns-clause-sizes : goal.returns-clause-sizes
returns-clause-sizes c = ap sizes_of c.set.ensures ∙ sizes_kept _ _ _ ∙ c.join.ensures.sizes ∙ ap (λ (v : Places). v.sizes) c.self.view_is
