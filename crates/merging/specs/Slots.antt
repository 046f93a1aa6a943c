-- Beginnings of schedules in slots, by their number of spots.
use Rattle.std.specs.Prelude.{◌≡◌, ◌<◌, ◌++◌, ℕ, List, [], ◌∷◌, length, slice_get, Option, Some, None}
use Rattle.posix.specs.declared.event.Event.{Event}
use Rattle.text.specs.EventTexts.{most_events}
use Rattle.merging.specs.declared.begun.Begun.{Begun}

-- Each slot has beginnings with as many spots as its index says, or none.
abbrev pub AreInSlots : List (Option Begun) → Type 0
AreInSlots slots = (k : ℕ) (b : Begun) → slice_get slots k ≡ Some (Some b) → length b.spots ≡ k

-- One more event can run after all beginnings.
abbrev pub AreShort : List (Option Begun) → Type 0
AreShort slots = (k : ℕ) (b : Begun) → slice_get slots k ≡ Some (Some b) → length b.given < most_events

-- One more event has run after these beginnings.
abbrev pub given_slot : Event → Option Begun → Option Begun
given_slot x None = None
given_slot x (Some b) = Some (record b { given = b.given ++ x ∷ [] })
