-- Commands on a world and events that have names, and may be in a folder.
use Rattle.std.specs.Prelude.{◌≡◌, ◌⊎◌, ◌||◌, ◌&&◌, ◌==◌, ◌-◌, ℕ, Bool, false, List, [], ◌∷◌, ◌++◌, Option, None, Some, codes, get_or, if◌then◌else◌, length, map, option_map}
use Rattle.std.specs.Option.{option_map_or}
use Rattle.std.specs.Str.{bytes_eq}
use Rattle.inputs.specs.Reads.{Contents, Text}
use Rattle.trace.specs.Sinks.{Seen}
use Rattle.refusing.specs.Texts.{Input, IsInput, files_with}
use Rattle.commands.specs.Commands.{ServesAs, purpose_of}
use Rattle.commands.specs.Options.{ArePlain, first_option}
use Rattle.commands.specs.declared.named.Place.{Place as DeclaredPlace}

-- `run`, `explore` and `show`
abbrev pub takes_names : Text → Bool
takes_names word = bytes_eq word (codes "run") || bytes_eq word (codes "explore") || bytes_eq word (codes "show")

-- If the arguments begin with `COMMAND --names`, that command, and the arguments after these two.
abbrev pub named_in : List Text → Option (Text × List Text)
named_in [] = None
named_in (command ∷ []) = None
named_in (command ∷ option ∷ more) = if takes_names command && bytes_eq option (codes "--names") then Some (command, more) else None

-- True if an argument begins with `-`, and is longer than that.
abbrev pub is_option : Text → Bool
is_option [] = false
is_option (b ∷ []) = false
is_option (b ∷ c ∷ more) = b == 45

-- the file or the folder of the world, the file of the events, if it is not in the folder, and the options after them
pub record Place : Type 0 where
  pub world : Text
  pub events : Option Text
  pub options : List Text

abbrev pub said : DeclaredPlace → Place
said p = record { world = p.world.now; events = option_map (λ e. e.now) p.events; options = map (λ w. w.now) p.options.now }

abbrev pub place_behind : Text → List Text → Place
place_behind world [] = record { world = world; events = None; options = [] }
place_behind world (word ∷ more) = if is_option word then record { world = world; events = None; options = word ∷ more }
    else record { world = world; events = Some word; options = more }

abbrev pub place_in : List Text → Option Place
place_in [] = None
place_in (world ∷ more) = if is_option world then None else Some (place_behind world more)

-- the name of a file in a folder
abbrev pub in_folder : Text → Text → Text
in_folder folder file = if get_or folder (length folder - 1) 0 == 47 then folder ++ file else folder ++ 47 ∷ file

-- the arguments of a command on the files `world` and `events`
abbrev pub over_texts : Text → List Text → List Text
over_texts command options = command ∷ codes "world" ∷ codes "events" ∷ options

-- The command was run on the files `world` and `events` with these texts, and with options that replace the given ones.
pub record ServesTexts {S : Type 0} (contents : Contents) (command : Text) (options : List Text) (old new : S) (before after : Seen) (status : ℕ) : Type 0 where
  pub plain : List Text
  pub are_plain : ArePlain (first_option command) options plain
  pub serves : ServesAs contents old new before after status (purpose_of (over_texts command plain))

-- The texts at this place were read, the world from one of the two files that its name can mean. The command was run on
-- these texts, with numbers in place of their names.
pub record ServesPlace {S : Type 0} (contents : Contents) (command : Text) (place : Place) (old new : S) (before after : Seen) (status : ℕ) : Type 0 where
  pub world : Input
  pub events : Input
  pub world_name : (world.name ≡ place.world) ⊎ (world.name ≡ in_folder place.world (codes "world"))
  pub events_name : events.name ≡ option_map_or (λ e. e) place.events (in_folder place.world (codes "events"))
  pub of_world : IsInput contents world
  pub of_events : IsInput contents events
  pub served : ServesTexts (files_with world.named events.named) command place.options old new before after status

-- If no file is named, the status is 2. Otherwise the command was run at this place; or the status is 3, because a file
-- could not be read or there was no memory.
abbrev pub ServesNamed : {S : Type 0} → Contents → Text → Option Place → S → S → Seen → Seen → ℕ → Type 0
ServesNamed contents command None old new before after status = (status ≡ 2) × (new ≡ old)
ServesNamed contents command (Some place) old new before after status = ServesPlace contents command place old new before after status ⊎ ((status ≡ 3) × (new ≡ old))
