-- How far a run has come, and what became of its lines.
use Rattle.std.specs.Prelude.{◌≡◌, ℕ, ◌+◌, ◌*◌, ◌^◌, ◌<◌, ◌≤◌, List, ◌++◌, length}
use Rattle.posix.specs.declared.event.Event.{Event}
use Rattle.posix.specs.Common.{Line, reported, State, RunsFrom, print}
use Rattle.trace.specs.Sinks.{Seen, TakesAll, Gathers, BreaksOff}

-- The events, numbered from k on, lead from old to new, and show lines of which this holds.
pub record Shows (k : ℕ) (old : State) (events : List Event) (new : State) (Holds : List Line → Type 0) : Type 0 where
  pub lines : List Line
  pub run : RunsFrom k old events lines new
  pub holds : Holds lines
  pub few : reported lines ≤ 4 * length events  -- an event shows at most four entries

-- The first of the events did this; the rest was not applied.
pub record Breaks (k : ℕ) (old : State) (events : List Event) (new : State) (Holds : List Line → Type 0) : Type 0 where
  pub given : List Event
  pub rest : List Event
  pub all : given ++ rest ≡ events
  pub shows : Shows k old given new Holds

-- Of the bytes that were yet to be put, and the printed lines after them, a beginning was taken, and the rest is yet to
-- be put. So many terminations were reported before, and so many with these lines, if these are numbers of 64 bits.
pub record Prints (a : Seen) (before : List ℕ) (told : ℕ) (b : Seen) (after : List ℕ) (ends : ℕ) (lines : List Line) : Type 0 where
  pub gathered : Gathers a before b after (print lines)
  pub counted : told + reported lines < 2 ^ 64 → ends ≡ told + reported lines

-- The events lead from old to new, and the printed trace was taken; it reports so many terminations.
abbrev pub WritesTrace : ℕ → State → List Event → State → Seen → Seen → ℕ → Type 0
WritesTrace k old events new a b ends = Shows k old events new (λ lines. TakesAll a b (print lines) × (reported lines ≡ ends))

-- The events have a run. A beginning of its printed trace was taken before a put failed.
pub record BreaksTrace (k : ℕ) (old : State) (events : List Event) (a b : Seen) : Type 0 where
  pub lines : List Line
  pub last : State
  pub run : RunsFrom k old events lines last
  pub broken : BreaksOff a b (print lines)
