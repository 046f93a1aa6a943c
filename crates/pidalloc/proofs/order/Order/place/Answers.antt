use Rattle.std.proofs.Common.{sym, arith}
use Rattle.std.proofs.lemmas.Bool.{eqb-true, eqb-false}
use Rattle.pidset.proofs.RowLemmas.{row_kept}
use Rattle.pidalloc.proofs.MemberLemmas.{at_most}
use Rattle.pidalloc.proofs.RingLemmas.{inside, first_inside, prev_row, known, read, kept, order_first, order_last}
use Rattle.pidalloc.proofs.order.Order.place.Goals as goal

pub overflow_add-self : goal.overflow_add-self
overflow_add-self c =
    let o = known _ _ _ _ c.self.invariant c.self.view_is in
    omega (arith, o.count, at_most 2147483648 _ o.kept.distinct (λ i e. let h = o.kept.high i e in omega (arith, h)))

pub get-last-requires : goal.get-last-requires
get-last-requires c =
    let k = (known _ _ _ _ c.self.invariant c.self.view_is).kept in
    inside _ _ _ k _ (first_inside _ _ _ k.ring (eqb-false _ 0 (sym c.if-eq.ensures)))

pub join-requires-else-eq-clause-prev_inside : goal.join-requires-else-eq-clause-prev_inside
join-requires-else-eq-clause-prev_inside c =
    let k = (known _ _ _ _ c.self.invariant c.self.view_is).kept in
    prev_row _ _ _ k _ _ (first_inside _ _ _ k.ring (eqb-false _ 0 (sym c.if-eq.ensures))) (c.get-last.ensures _)

pub join-requires-else-eq-2-clause-next_inside : goal.join-requires-else-eq-2-clause-next_inside
join-requires-else-eq-2-clause-next_inside c =
    let k = (known _ _ _ _ c.self.invariant c.self.view_is).kept in
    row_kept _ _ _ c.join-else-eq.ensures.sizes (inside _ _ _ k _ (first_inside _ _ _ k.ring (eqb-false _ 0 (sym c.if-eq.ensures))))

pub invariant_of-self : goal.invariant_of-self
invariant_of-self c = kept _ _ _ _ (order_first _ _ _ _ _ _ (known _ _ _ _ c.self.invariant c.self.view_is) (eqb-true _ 0 (sym c.if-eq.ensures)) c.requires.some (omega arith) c.join.ensures)

pub invariant_of-self-else-eq : goal.invariant_of-self-else-eq
invariant_of-self-else-eq c = kept _ _ _ _ (order_last _ _ _ _ _ _ _ _ (known _ _ _ _ c.self.invariant c.self.view_is) (eqb-false _ 0 (sym c.if-eq.ensures)) c.requires.some (omega arith) c.requires.none (c.get-last.ensures _) c.join-else-eq.ensures c.join-else-eq-2.ensures)

pub returns-then-eq-clause-pids : goal.returns-then-eq-clause-pids
returns-then-eq-clause-pids c = read _ _ _ _ (order_first _ _ _ _ _ _ (known _ _ _ _ c.self.invariant c.self.view_is) (eqb-true _ 0 (sym c.if-eq.ensures)) c.requires.some (omega arith) c.join.ensures)

pub returns-else-eq-clause-pids : goal.returns-else-eq-clause-pids
returns-else-eq-clause-pids c = read _ _ _ _ (order_last _ _ _ _ _ _ _ _ (known _ _ _ _ c.self.invariant c.self.view_is) (eqb-false _ 0 (sym c.if-eq.ensures)) c.requires.some (omega arith) c.requires.none (c.get-last.ensures _) c.join-else-eq.ensures c.join-else-eq-2.ensures)
