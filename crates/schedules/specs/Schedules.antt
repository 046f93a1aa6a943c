-- The events of a schedule: a list of events with ticks and loose events inserted.
use Rattle.std.specs.Prelude.{ℕ, zero, suc, ◌-◌, List, [], ◌∷◌, ◌++◌, length, take, drop, slice_index_or}
use Rattle.posix.specs.declared.event.Event.{Event}
use Rattle.posix.specs.declared.event.Event.TheVariants.{Tick}
use Rattle.schedules.specs.Families.{Spots, kind_of, place_of}

-- The event of a kind.
abbrev pub event_of : List Event → ℕ → Event
event_of loose zero = Tick
event_of loose (suc i) = slice_index_or loose i Tick

-- The event that is inserted at a spot.
abbrev pub put_at : List Event → ℕ → Event
put_at loose q = event_of loose (kind_of (length loose) q)

-- The events with one inserted at each spot. The last is inserted first, so that the places of the others stay.
unfoldable pub scheduled : List Event → List Event → Spots → List Event
scheduled loose events [] = events
scheduled loose events (q ∷ ps) =
    let later = scheduled loose events ps in
    let p = place_of (length loose) q in
    take p later ++ put_at loose q ∷ drop p later

-- The same from the front, if the places don't decrease and are within the list: of the events from index i on, those
-- before the first spot, what is inserted there, and so on.
unfoldable pub from_front : List Event → ℕ → List Event → Spots → List Event
from_front loose i events [] = events
from_front loose i events (q ∷ ps) =
    let p = place_of (length loose) q in
    take (p - i) events ++ put_at loose q ∷ from_front loose p (drop (p - i) events) ps
