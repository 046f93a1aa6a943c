use Rattle.std.proofs.Common.{sym, ap, subst, ◌∙◌}
use Rattle.std.proofs.lemmas.Bool.{eqb-true}
use Rattle.posix.proofs.MemberLemmas.{out_of}
use Rattle.posix.specs.Common.{is_in}
use Rattle.pidset.specs.Rows.{HasRoom}
use Rattle.pidset.proofs.RowLemmas.{room_is}
use Rattle.pidalloc.specs.Places.{Places}
use Rattle.pidalloc.proofs.RingLemmas.{inside, known, read, kept, order_turned}
use Rattle.pidalloc.proofs.order.Order.go_last.Goals as goal

pub get-requires : goal.get-requires
get-requires c = inside _ _ _ (known _ _ _ _ c.self.invariant c.self.view_is).kept c.args.pid c.requires

pub invariant_of-self : goal.invariant_of-self
invariant_of-self c = kept _ _ _ _ (order_turned _ _ _ _ _ _ (known _ _ _ _ c.self.invariant c.self.view_is) (eqb-true _ _ (sym c.if-eq.ensures)) c.requires (c.get.ensures _))

pub returns-then-eq-clause-pids : goal.returns-then-eq-clause-pids
returns-then-eq-clause-pids c = read _ _ _ _ (order_turned _ _ _ _ _ _ (known _ _ _ _ c.self.invariant c.self.view_is) (eqb-true _ _ (sym c.if-eq.ensures)) c.requires (c.get.ensures _))

pub place-requires-clause-none : goal.place-requires-clause-none
place-requires-clause-none c = ap (is_in c.args.pid) c.drop_place.ensures.pids ∙ out_of _ _

pub place-requires-clause-room : goal.place-requires-clause-room
place-requires-clause-room c =
    let row = inside _ _ _ (known _ _ _ _ c.self.invariant c.self.view_is).kept c.args.pid c.requires in
    subst (λ sizes. HasRoom sizes c.args.pid) (sym (c.drop_place.ensures.sizes ∙ ap (λ (v : Places). v.sizes) (sym c.self.view_is))) (room_is _ _ row)
