-- The command lines of programs that are given one file, or a world and its events, and what their arguments ask for.
use Rattle.std.specs.Prelude.{Bool, true, false, List, [], ◌∷◌, Option, Some, None, codes, fold, option_and_then, option_map}
use Rattle.std.specs.Option.{option_map_or}
use Rattle.std.specs.Str.{bytes_eq}
use Rattle.clap.specs.Simple.{on_top}
use Rattle.clap.specs.Words.{App, Kinds, Row, Rule, Shape, Text, fault_of, first_of, matches_of, new_app, new_rule, with_rule}
use Rattle.clap.specs.declared.builder.action.ArgAction.{ArgAction}
use Rattle.clap.specs.declared.builder.action.ArgAction.TheVariants.{Set, SetTrue}

-- the name of a file, which is required
abbrev pub file_rule : Text → Rule
file_rule name = record (new_rule name) { required = true; action = Some Set }

-- an option, with the action that its use has
abbrev pub option_rule : Text × ArgAction → Rule
option_rule option = record (new_rule option.0) { long = Some option.0; action = Some option.1 }

abbrev pub without_program_name : Shape → Shape
without_program_name command = record command { no_binary_name = true }

-- what is asked for, unless the arguments are rejected
abbrev pub unless_refused : {A : Type 0} → Kinds → Option A → Option A
unless_refused [] asked = asked
unless_refused (kind ∷ more) asked = None

-- ---- one file

-- `PROGRAM FILE`, with this name of the file on the command line
abbrev pub command_with_file : Text → Text → App
command_with_file program file = with_rule (on_top without_program_name (new_app program)) (file_rule file)

-- What arguments ask for, unless they are rejected: the name of a file.
abbrev pub file_in_words : Text → Text → List Text → Option Text
file_in_words program file words =
    unless_refused (fault_of (command_with_file program file) words) (first_of file (matches_of (command_with_file program file) words))

-- `PROGRAM FILE` with a flag
abbrev pub command_with_flag : Text → Text → Text → App
command_with_flag program file flag = with_rule (command_with_file program file) (option_rule (flag, SetTrue))

-- ---- a world and its events

abbrev pub with_files : Text → App
with_files program =
    with_rule (with_rule (on_top without_program_name (new_app program)) (file_rule (codes "world"))) (file_rule (codes "events"))

abbrev pub with_option : App → Text × ArgAction → App
with_option command option = with_rule command (option_rule option)

-- `PROGRAM WORLD EVENTS`, with these options
abbrev pub command_of : Text → List (Text × ArgAction) → App
command_of program options = fold with_option (with_files program) options

-- the names of the world and of the events, if both are given
abbrev pub files_in : List Row → Option (Text × Text)
files_in rows = option_and_then (λ world. option_map (λ events. (world, events)) (first_of (codes "events") rows)) (first_of (codes "world") rows)

-- What arguments without options ask for, unless they are rejected: these two names.
abbrev pub files_in_words : Text → List Text → Option (Text × Text)
files_in_words program words = unless_refused (fault_of (with_files program) words) (files_in (matches_of (with_files program) words))

-- True if a flag is used.
abbrev pub is_used : Text → List Row → Bool
is_used flag rows = option_map_or (λ value. bytes_eq value (codes "true")) (first_of flag rows) false
