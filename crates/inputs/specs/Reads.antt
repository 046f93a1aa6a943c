-- What is read from two files: a world, and events for it.
use Rattle.std.specs.Prelude.{◌≡◌, ◌≢◌, ◌⊎◌, ℕ, List, Option, Result, Ok, Err, IfSome}
use Rattle.posix.specs.declared.event.Event.{Event}
use Rattle.posix.specs.Common.{World}
use Rattle.text.specs.declared.fault.Reason.TheVariants.{Memory}
use Rattle.text.specs.declared.fault.TextFault.{TextFault}
use Rattle.text.specs.EventTexts.{event_text}
use Rattle.text.specs.WorldTexts.{world_text}
use Rattle.inputs.specs.declared.Inputs.{Inputs}
use Rattle.inputs.specs.declared.InputFault.{InputFault}
use Rattle.inputs.specs.declared.InputFault.TheVariants as fault

abbrev pub Text : Type 0
Text = List ℕ

-- the bytes of the file with each name, if they are known
abbrev pub Contents : Type 0
Contents = Text → Option (List ℕ)

-- These texts can be the contents of the two files, as far as the contents are known.
abbrev pub AreInFiles : Contents → Text × Text → List ℕ → List ℕ → Type 0
AreInFiles contents names world events =
    IfSome (contents names.0) (λ known. world ≡ known) × IfSome (contents names.1) (λ known. events ≡ known)

-- The two files describe this world, and these events for it.
pub record AreRead (contents : Contents) (names : Text × Text) (world : World) (events : List Event) : Type 0 where
  pub world_bytes : List ℕ
  pub event_bytes : List ℕ
  pub in_files : AreInFiles contents names world_bytes event_bytes
  pub world_is : world_text world_bytes ≡ Ok world
  pub events_are : event_text world.consoles event_bytes ≡ Ok events

-- The text of the world in one of two files is rejected, or the text of the events in the other file is.
pub record AreRefused (contents : Contents) (names : Text × Text) : Type 0 where
  pub world_bytes : List ℕ
  pub event_bytes : List ℕ
  pub in_files : AreInFiles contents names world_bytes event_bytes
  pub why : TextFault
  pub no_want : why.reason ≢ Memory
  pub refused : (world_text world_bytes ≡ Err why)
      ⊎ ((world : World) × (world_text world_bytes ≡ Ok world) × (event_text world.consoles event_bytes ≡ Err why))

-- why the text of a world with this meaning is rejected; `RefusesEvents` is the same for the text of events
abbrev pub RefusesWorld : Result World TextFault → InputFault → Type 0
RefusesWorld meaning (fault.World why) = (why.reason ≢ Memory) × (meaning ≡ Err why)
RefusesWorld meaning (fault.Events why) = ⊥
RefusesWorld meaning (fault.Unread other) = ⊥
RefusesWorld meaning fault.Memory = Unit {0}

abbrev pub RefusesEvents : Result (List Event) TextFault → InputFault → Type 0
RefusesEvents meaning (fault.World why) = ⊥
RefusesEvents meaning (fault.Events why) = (why.reason ≢ Memory) × (meaning ≡ Err why)
RefusesEvents meaning (fault.Unread other) = ⊥
RefusesEvents meaning fault.Memory = Unit {0}

-- How reading the two files ends.
abbrev pub Reads : Contents → Text × Text → Result Inputs InputFault → Type 0
Reads contents names (Ok inputs) = AreRead contents names inputs.world inputs.events
Reads contents names (Err (fault.World why)) = AreRefused contents names
Reads contents names (Err (fault.Events why)) = AreRefused contents names
Reads contents names (Err (fault.Unread other)) = Unit {0}
Reads contents names (Err fault.Memory) = Unit {0}
