-- How long a process in the run queue waits until it is current.
use Rattle.std.specs.Prelude.{◌≡◌, ℕ, ◌+◌, ◌==◌, Bool, true, false, if◌then◌else◌, List, [], ◌∷◌, ◌++◌, length, count_by, Some}
use Rattle.posix.specs.declared.event.Event.{Event}
use Rattle.posix.specs.declared.event.Event.TheVariants.{Step, Tick, Key, Hangup}
use Rattle.posix.specs.Common.{Line, State, current, RunsFrom}

-- Returns the number of processes before q in the run queue; all, if q is not in it.
unfoldable pub places_before : ℕ → List ℕ → ℕ
places_before q [] = 0
places_before q (p ∷ ps) = if p == q then 0 else places_before q ps + 1

abbrev pub is_tick : Event → Bool
is_tick Step = false
is_tick Tick = true
is_tick (Key console byte) = false
is_tick (Hangup console) = false

-- Returns the number of events that are ticks.
abbrev pub ticks_in : List Event → ℕ
ticks_in events = count_by is_tick events

-- The run of the events from old to last, numbered from k, comes through a state in which q is current.
pub record HasTurn (q k : ℕ) (old : State) (events : List Event) (lines : List Line) (last : State) : Type 0 where
  pub early : List Event
  pub late : List Event
  pub shown : List Line  -- by the early events
  pub rest : List Line  -- by the late ones
  pub mid : State
  pub all_events : events ≡ early ++ late
  pub all_lines : lines ≡ shown ++ rest
  pub before : RunsFrom k old early shown mid
  pub turn : current mid ≡ Some q
  pub after : RunsFrom (k + length early) mid late rest last
