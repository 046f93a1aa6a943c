use Rattle.std.proofs.Common.{◌≡◌, ℕ, ◌+◌, ◌-◌, length}
use Rattle.merging.specs.declared.search.Search.{Search}
use Rattle.merging.specs.Merging.{AllBegun, Outlook, Point, slots_tally}
use Rattle.merging.specs.Slots.{AreInSlots}
use Rattle.merging.proofs.begun.Beginnings.make_slot.Given as goal

-- Only empty slots were added.
abbrev pub invariant-loop-self : goal.invariant-loop-self
invariant-loop-self l = record {
  tally : (go_on : Outlook) (most : ℕ) (p : Point) → slots_tally go_on most p l.self-inside.slots.items ≡ slots_tally go_on most p l.fn.self;
  all : (s : Search) (place fewest : ℕ) (p : Point) → AllBegun s place fewest p l.fn.self → AllBegun s place fewest p l.self-inside.slots.items;
  slots : AreInSlots l.self-inside.slots.items;
}

abbrev pub decreases-loop-self : goal.decreases-loop-self
decreases-loop-self l = l.spots + 1 - length l.self-inside.slots.items
