-- Events, stored as counted runs.
use Rattle.std.specs.Prelude.{ℕ, List, replicate, flat_map}
use Rattle.posix.specs.declared.event.Event.{Event}

-- an event, and how many times it occurs
pub record CountedEvent : Type 0 where
  pub event : Event
  pub count : ℕ

-- the events of one run
abbrev pub run_events : CountedEvent → List Event
run_events r = replicate r.count r.event

-- the events of all runs
abbrev pub expanded : List CountedEvent → List Event
expanded runs = flat_map run_events runs
