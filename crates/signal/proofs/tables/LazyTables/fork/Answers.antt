use Rattle.std.proofs.Common.{◌≡◌, ◌∙◌, List, length, ap, sym, subst, arith}
use Rattle.posix.specs.declared.process.Carried.{Carried}
use Rattle.signal.specs.declared.action_fields.Actions.{Actions}
use Rattle.signal.specs.ActionFields.{AreFields, actions_or_blank}
use Rattle.signal.specs.SignalTables.{carried_or_blank, nothing_carried}
use Rattle.signal.proofs.tables.LazyTables.fork.Goals as goal

pub invariant_of-result : goal.invariant_of-result
unfolding nothing_carried
invariant_of-result c =
    let room = c.actions.invariant in
    let own = c.self.invariant in
    let actions : c.refill.new.to.items ≡ c.self.inside.actions.items = c.in_ok-refill.ensures.items ∙ c.as_slice.ensures.value in
    let frames : c.refill-2.new.to.items ≡ c.self.inside.frames.items = c.in_ok-refill-2.ensures.items ∙ c.as_slice-2.ensures.value in (
      omega (arith, room.0, c.refill.ensures.room),
      omega (arith, room.1, c.clear.ensures.capacity),
      omega (arith, room.2, c.refill-2.ensures.room),
      subst (λ (kept : List Actions). AreFields (actions_or_blank kept)) (sym actions) own.3,
      ap (λ (kept : List (List Carried)). length (carried_or_blank kept)) c.clear.ensures.items,
      omega (arith, ap length frames, own.5),
    )
