-- Why a world and its events cannot be read.
use Rattle.std.proofs.Common.{◌≡◌, ℕ, List, Result, Ok, Err, inl, inr}
use Rattle.std.specs.Prelude.{IsErrAnd}
use Rattle.posix.specs.Common.{World}
use Rattle.text.specs.EventTexts.{event_text}
use Rattle.text.specs.WorldTexts.{world_text}
use Rattle.inputs.specs.declared.Inputs.{Inputs}
use Rattle.inputs.specs.declared.InputFault.{InputFault}
use Rattle.inputs.specs.declared.InputFault.TheVariants as fault
use Rattle.inputs.specs.Reads.{AreInFiles, Contents, Reads, RefusesEvents, RefusesWorld, Text}

-- the world is rejected
pub world_unread : (contents : Contents) (names : Text × Text) (world events : List ℕ) (why : InputFault) → AreInFiles contents names world events
    → RefusesWorld (world_text world) why → Reads contents names (Err why)
world_unread contents names world events (fault.World why) files h = record { world_bytes = world; event_bytes = events; in_files = files; why = why; no_want = h.0; refused = inl h.1 }
world_unread contents names world events (fault.Events why) files h = absurd h
world_unread contents names world events (fault.Unread other) files h = absurd h
world_unread contents names world events fault.Memory files h = tt

-- the events are rejected
pub events_unread : (contents : Contents) (names : Text × Text) (world_bytes event_bytes : List ℕ) (world : World) (why : InputFault) → AreInFiles contents names world_bytes event_bytes
    → world_text world_bytes ≡ Ok world → RefusesEvents (event_text world.consoles event_bytes) why → Reads contents names (Err why)
events_unread contents names world_bytes event_bytes world (fault.World why) files is h = absurd h
events_unread contents names world_bytes event_bytes world (fault.Events why) files is h = record { world_bytes = world_bytes; event_bytes = event_bytes; in_files = files; why = why; no_want = h.0; refused = inr (world, is, h.1) }
events_unread contents names world_bytes event_bytes world (fault.Unread other) files is h = absurd h
events_unread contents names world_bytes event_bytes world fault.Memory files is h = tt

-- what `?` propagates
pub handed_on : (contents : Contents) (names : Text × Text) (r : Result Inputs InputFault) (why : InputFault) → IsErrAnd r (λ e. e ≡ why) → Reads contents names (Err why) → Reads contents names r
handed_on contents names (Ok inputs) why h unread = absurd h
handed_on contents names (Err e) why h unread = rw h unread
