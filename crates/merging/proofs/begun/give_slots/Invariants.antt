use Rattle.std.proofs.Common.{◌≡◌}
use Rattle.merging.specs.Slots.{AreInSlots}
use Rattle.merging.proofs.SlotLemmas.{given_to}
use Rattle.merging.proofs.begun.give_slots.Given as goal

-- The event has run after the beginnings so far.
abbrev pub invariant-loop-index : goal.invariant-loop-index
invariant-loop-index l = record {
  given : l.slots.items ≡ given_to l.event l.index l.fn.slots.items;
  slots : AreInSlots l.fn.slots.items → AreInSlots l.slots.items;
}
