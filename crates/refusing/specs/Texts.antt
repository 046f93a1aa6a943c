-- A world and its events, and the report of a fault in them.
use Rattle.std.specs.Prelude.{◌≡◌, ◌⊎◌, ℕ, List, None, Some, Ok, IfSome, codes, if◌then◌else◌}
use Rattle.std.specs.Str.{bytes_eq}
use Rattle.inputs.specs.Reads.{Contents, Text}
use Rattle.inputs.specs.declared.failure.FileFailure.{FileFailure}
use Rattle.inputs.specs.declared.failure.FileFailure.TheVariants.{Usage, Unread, Memory as NoMemory, Write}
use Rattle.naming.specs.Texts.{IsNamed}
use Rattle.posix.specs.declared.event.Event.{Event}
use Rattle.posix.specs.Common.{World}
use Rattle.text.specs.EventTexts.{event_text}
use Rattle.text.specs.WorldTexts.{world_text}
use Rattle.text.specs.declared.fault.TextFault.{TextFault}
use Rattle.refusing.specs.Faults.{HasFault, Tells}
use Rattle.refusing.specs.declared.texts.Input.{Input as DeclaredInput}
use Rattle.refusing.specs.declared.texts.Texts.{Texts}

-- the name of a file, its text, and the same text with numbers for its names
pub record Input : Type 0 where
  pub name : Text
  pub given : List ℕ
  pub named : List ℕ

abbrev pub input_of : DeclaredInput → Input
input_of i = record { name = i.name.now; given = i.given.items; named = i.named.text.items }

-- The input is the text of its file, if the contents of the file are known.
pub record IsInput (contents : Contents) (input : Input) : Type 0 where
  pub told : List ℕ
  pub in_file : IfSome (contents input.name) (λ known. input.given ≡ known)
  pub is_named : IsNamed input.given input.named told

-- the files `world` and `events` with these texts, and no others
abbrev pub files_with : List ℕ → List ℕ → Contents
files_with world events name = if bytes_eq name (codes "world") then Some world else if bytes_eq name (codes "events") then Some events else None

abbrev pub named_files : Texts → Contents
named_files texts = files_with texts.world.named.text.items texts.events.named.text.items

-- The failure is that of a read: the file can't be read, or memory runs out.
abbrev pub IsUnread : FileFailure → Type 0
IsUnread Usage = ⊥
IsUnread (Unread why) = Unit {0}
IsUnread NoMemory = Unit {0}
IsUnread Write = ⊥

-- Both texts are accepted.
pub record AreAccepted (world events : Input) : Type 0 where
  pub known : World
  pub list : List Event
  pub world_is : world_text world.named ≡ Ok known
  pub events_are : event_text known.consoles events.named ≡ Ok list

-- The world has a fault, or it is accepted and the events have one. `out` reports it and at most nine others.
abbrev pub IsRefused : Input → Input → List ℕ → Type 0
IsRefused world events out = (why : TextFault) × (HasFault None world.named why × Tells 9 None world.name world.given world.named why out
    ⊎ ((known : World) × (world_text world.named ≡ Ok known) × HasFault (Some known.consoles) events.named why × Tells 9 (Some known.consoles) events.name events.given events.named why out))
