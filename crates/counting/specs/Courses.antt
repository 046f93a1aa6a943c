-- The run of a list of events in a world, with all memory granted.
use Rattle.std.specs.Prelude.{◌≡◌, ℕ, ◌+◌, Bool, true, false, List, [], ◌∷◌, ◌++◌}
use Rattle.std.specs.List.{list_any}
use Rattle.posix.specs.declared.event.Event.{Event}
use Rattle.posix.specs.declared.entry.Entry.{Entry}
use Rattle.posix.specs.declared.entry.Entry.TheVariants.{Noted, Called, Moved, Reported, Looked, NoMemory, Marked, Handled, Discarded, Stopped, Returned, Ended, Halted}
use Rattle.posix.specs.Common.{Line, numbered, State, World, boot, next}
use Rattle.kernel.specs.Progress.{Shows}
use Rattle.schedules.specs.Families.{Spots}
use Rattle.schedules.specs.Schedules.{scheduled}
use Rattle.counting.specs.declared.ending.Ending.{Ending}
use Rattle.counting.specs.Endings.{ending_of}

-- ---- by the definition of an event

-- The lines and the last state of a run.
pub record Course : Type 0 where
  pub lines : List Line
  pub last : State

-- The run of the events, numbered from k, with all memory granted.
abbrev pub course_from : ℕ → State → List Event → Course
course_from k s [] = record { lines = []; last = s }
course_from k s (event ∷ events) =
    let one = next true s event in
    let rest = course_from (k + 1) one.state events in
    record { lines = numbered k one.entries ++ rest.lines; last = rest.last }

-- The run of a schedule: of a list of events with ticks and loose events inserted.
unfoldable pub course_of : World → List Event → List Event → Spots → Course
course_of world loose events ps = course_from 1 (boot world) (scheduled loose events ps)

-- ---- as lines that are collected

-- The entry says that the host had no memory for a call.
abbrev pub denies_memory : Entry → Bool
denies_memory (Noted pid value) = false
denies_memory (Called pid call result) = false
denies_memory (Moved pid call bytes) = false
denies_memory (Reported pid call child status) = false
denies_memory (Looked pid child status) = false
denies_memory (NoMemory pid call) = true
denies_memory (Marked pid mark) = false
denies_memory (Handled pid sig value sender) = false
denies_memory (Discarded pid sig) = false
denies_memory (Stopped pid sig) = false
denies_memory (Returned pid) = false
denies_memory (Ended pid status) = false
denies_memory Halted = false

-- A line says that the host had no memory for a call.
abbrev pub one_denies_memory : List Line → Bool
one_denies_memory lines = list_any (λ l. denies_memory l.entry) lines

-- These lines were added to the lines before, and none says that the host had no memory for a call.
abbrev pub AddsGranted : List Line → List Line → List Line → Type 0
AddsGranted before after shows = (after ≡ before ++ shows) × (one_denies_memory shows ≡ false)

-- With all memory granted, the events, numbered from k, lead from old to new, and what they show was added to the
-- lines before.
abbrev pub Adds : ℕ → State → List Event → State → List Line → List Line → Type 0
Adds k old events new before after = Shows k old events new (AddsGranted before after)

-- In a world, with all memory granted, the events show these lines, and the run ends in this way.
pub record IsCourse (world : World) (events : List Event) (lines : List Line) (ending : Ending) : Type 0 where
  pub last : State
  pub adds : Adds 1 (boot world) events last [] lines
  pub ends : ending ≡ ending_of last
