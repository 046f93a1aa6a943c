use Rattle.std.proofs.Common.{ap, ◌∙◌}
use Rattle.pidset.specs.Rows.{sizes_without}
use Rattle.pidset.proofs.RowLemmas.{sizes_left}
use Rattle.pidalloc.specs.Places.{Places}
use Rattle.pidalloc.proofs.RingLemmas.{known, read, kept, order_left}
use Rattle.pidalloc.proofs.order.Order.give_up_page.Goals as goal

pub invariant_of-self : goal.invariant_of-self
invariant_of-self c = rw c.give_up_page.ensures (kept _ _ _ _ (order_left _ _ _ _ _ (known _ _ _ _ c.self.invariant c.self.view_is) c.requires))

pub returns : goal.returns
returns c =
    let pids = read _ _ _ _ (order_left _ _ _ _ _ (known _ _ _ _ c.self.invariant c.self.view_is) c.requires) in
    let sizes = sizes_left c.self.inside.nodes c.args.pid ∙ ap (λ (v : Places). sizes_without v.sizes c.args.pid) c.self.view_is in
    rw c.give_up_page.ensures (λ i. record { pids = pids i; sizes = sizes i })
