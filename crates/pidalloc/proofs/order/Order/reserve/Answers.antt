use Rattle.std.proofs.Common.{ap, sym}
use Rattle.std.proofs.lemmas.Result.{on_ok_weaker}
use Rattle.pidset.proofs.RowLemmas.{row_is, room_is}
use Rattle.pidalloc.specs.Places.{Places}
use Rattle.pidalloc.proofs.RingLemmas.{known, read, kept, order_grown}
use Rattle.pidalloc.proofs.order.Order.reserve.Goals as goal

pub invariant_of-self : goal.invariant_of-self
invariant_of-self c = kept _ _ _ _ (order_grown _ _ _ _ _ (known _ _ _ _ c.self.invariant c.self.view_is) c.reserve.ensures.rows)

pub returns-clause-room : goal.returns-clause-room
returns-clause-room c = on_ok_weaker c.reserve.result (room_is c.reserve.new.self c.args.pid) c.reserve.ensures.room

pub returns-clause-grows : goal.returns-clause-grows
returns-clause-grows c = λ n h. room_is _ n (c.reserve.ensures.grows n (row_is _ _ n (ap (λ (v : Places). v.sizes) (sym c.self.view_is)) h))

pub returns-clause-pids : goal.returns-clause-pids
returns-clause-pids c = read _ _ _ _ (order_grown _ _ _ _ _ (known _ _ _ _ c.self.invariant c.self.view_is) c.reserve.ensures.rows)
