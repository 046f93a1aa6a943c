-- What a run does, from two inputs to what a sink took.
use Rattle.std.specs.Prelude.{◌≡◌, ◌≢◌, ℕ, List, length, Result, Ok, Err}
use Rattle.posix.specs.declared.event.Event.{Event}
use Rattle.posix.specs.Common.{Line, World, State, Runs, print}
use Rattle.text.specs.declared.fault.Reason.TheVariants.{Memory}
use Rattle.text.specs.EventTexts.{event_text}
use Rattle.text.specs.WorldTexts.{world_text}
use Rattle.kernel.specs.declared.summary.Summary.{Summary}
use Rattle.kernel.specs.declared.texts.RunError.{RunError}
use Rattle.kernel.specs.declared.texts.RunError.TheVariants as error
use Rattle.trace.specs.Sinks.{Seen, TakesAll, BreaksOff}
use Rattle.kernel.specs.Summaries.{summary_of}

-- The inputs mean a world and these events, which have a run of the machine with these lines and this last state.
pub record RunsTexts (world_bytes event_bytes : List ℕ) (events : List Event) (lines : List Line) (last : State) : Type 0 where
  pub world : World
  pub world_is : world_text world_bytes ≡ Ok world
  pub events_are : event_text world.consoles event_bytes ≡ Ok events
  pub run : Runs world events lines last

-- The printed trace of a run was taken, no put failed, and the summary is counted from that run.
pub record Traces (world_bytes event_bytes : List ℕ) (before after : Seen) (summary : Summary) : Type 0 where
  pub events : List Event
  pub lines : List Line
  pub last : State
  pub run : RunsTexts world_bytes event_bytes events lines last
  pub taken : TakesAll before after (print lines)
  pub counted : summary ≡ summary_of (length events) lines last

-- A put failed, it was the last, and the beginning of the printed trace of a run was taken.
pub record CutsShort (world_bytes event_bytes : List ℕ) (before after : Seen) : Type 0 where
  pub events : List Event
  pub lines : List Line
  pub last : State
  pub run : RunsTexts world_bytes event_bytes events lines last
  pub broken : BreaksOff before after (print lines)

-- When each error occurs. In the first three cases nothing was put: the sink is as it was.
abbrev pub Fails : {S : Type 0} → List ℕ → List ℕ → S → S → Seen → Seen → RunError → Type 0
Fails world_bytes event_bytes old new before after (error.World fault) = (world_text world_bytes ≡ Err fault) × (fault.reason ≢ Memory) × (new ≡ old)
Fails world_bytes event_bytes old new before after (error.Events fault) =
    ((world : World) × (world_text world_bytes ≡ Ok world) × (event_text world.consoles event_bytes ≡ Err fault)) × (fault.reason ≢ Memory) × (new ≡ old)
Fails world_bytes event_bytes old new before after error.Memory = new ≡ old
Fails world_bytes event_bytes old new before after error.Write = CutsShort world_bytes event_bytes before after

-- For every world and every list of events, the bytes that the sink took are the printed trace of a
-- run of the machine; or this is the error.
abbrev pub Headline : {S : Type 0} → List ℕ → List ℕ → S → S → Seen → Seen → Result Summary RunError → Type 0
Headline world_bytes event_bytes old new before after (Ok summary) = Traces world_bytes event_bytes before after summary
Headline world_bytes event_bytes old new before after (Err why) = Fails world_bytes event_bytes old new before after why
