-- The events that lines of an event text are read as, in any world.
use Rattle.std.specs.Prelude.{◌≡◌, ℕ, ◌+◌, ◌≤◌, ◌&&◌, Bool, true, List, ◌++◌, length, nat_le, codes, None, Ok}
use Rattle.std.specs.List.{list_all}
use Rattle.posix.specs.declared.event.Event.{Event}
use Rattle.posix.specs.declared.event.Event.TheVariants.{Step, Tick, Key, Hangup}
use Rattle.text.specs.Lines.{all_lines}
use Rattle.text.specs.EventTexts.{Reading, read_lines, event_text, most_events}

-- The event is possible with this many consoles.
abbrev pub is_possible : ℕ → Event → Bool
is_possible consoles (Key console byte) = nat_le 1 console && nat_le console consoles
is_possible consoles (Hangup console) = nat_le 1 console && nat_le console consoles
is_possible consoles event = true

-- The text is read as these events in each world in which they are possible.
abbrev pub StandsFor : List ℕ → List Event → Type 0
StandsFor text events = (consoles : ℕ) → list_all (is_possible consoles) events ≡ true → event_text consoles text ≡ Ok events

-- A text was added that is read as these events.
abbrev pub AddsText : List ℕ → List Event → List ℕ → Type 0
AddsText old events new = (added : List ℕ) × (new ≡ old ++ added) × StandsFor added events

-- ---- lines among others

-- This many lines were read, without a fault.
abbrev pub read_well : ℕ → List Event → Reading
read_well lines events = record { lines = lines; events = events; fault = None }

-- These whole lines are read as these events, whatever was read before them, and whatever comes after them.
abbrev pub Says : List ℕ → List Event → Type 0
Says text events = (consoles lines : ℕ) (before : List Event) (rest : List ℕ) → list_all (is_possible consoles) events ≡ true → length before + length events ≤ most_events →
    (lines_then : ℕ) × (read_lines consoles (read_well lines before) (all_lines (text ++ rest)) ≡ read_lines consoles (read_well lines_then (before ++ events)) (all_lines rest))

-- Lines were added that are read as these events.
abbrev pub AddsLines : List ℕ → List Event → List ℕ → Type 0
AddsLines old events new = (added : List ℕ) × (new ≡ old ++ added) × Says added events

-- Some events were not yet written, and more came. Lines were added that are read as the first of all these, and the
-- others are not yet written.
abbrev pub AddsFirst : List ℕ → List Event → List Event → List ℕ → List Event → Type 0
AddsFirst old waited events new wait = (said : List Event) × AddsLines old said new × (said ++ wait ≡ waited ++ events)

-- The word before a number of such events.
abbrev pub IsWordOf : Event → List ℕ → Type 0
IsWordOf Step word = word ≡ codes "step"
IsWordOf Tick word = word ≡ codes "tick"
IsWordOf (Key console byte) word = ⊥
IsWordOf (Hangup console) word = ⊥
