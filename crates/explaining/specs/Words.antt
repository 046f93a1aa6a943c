-- The arguments of `explain`.
use Rattle.std.specs.Prelude.{List, Option, None, Some, codes}
use Rattle.clap.specs.Words.{App, Row, Rule, fault_of, first_of, matches_of, new_rule, with_rule}
use Rattle.clap.specs.declared.builder.action.ArgAction.TheVariants.{Set}
use Rattle.showing.specs.Comparing.{Named, said as said_names}
use Rattle.inputs.specs.Reads.{Text}
use Rattle.inputs.specs.Words.{command_with_file, unless_refused}
use Rattle.explaining.specs.declared.words.Asked.{Asked as DeclaredAsked}
use Rattle.explaining.specs.declared.words.Asked.TheVariants as declared

pub data Asked : Type 0 where
  OfTrace : Text → Asked  -- explain a trace
  OfRun : Named → Asked  -- compare a trace with a run of a world, and explain it

abbrev pub said : DeclaredAsked → Asked
said (declared.Trace name) = OfTrace name.now
said (declared.Beside names) = OfRun (said_names names)

-- an optional argument that names a file
abbrev pub more_rule : Text → Rule
more_rule name = record (new_rule name) { action = Some Set }

-- `explain TRACE [WORLD EVENTS]`
abbrev pub command_line : App
command_line = with_rule (with_rule (command_with_file (codes "explain") (codes "trace")) (more_rule (codes "world"))) (more_rule (codes "events"))

-- Either both the world and the events are named, or neither is.
abbrev pub asked_by_names : Option Text → Option Text → Option Text → Option Asked
asked_by_names None world events = None
asked_by_names (Some trace) None None = Some (OfTrace trace)
asked_by_names (Some trace) None (Some events) = None
asked_by_names (Some trace) (Some world) None = None
asked_by_names (Some trace) (Some world) (Some events) = Some (OfRun (record { trace = trace; world = world; events = events }))

abbrev pub asked_in : List Row → Option Asked
asked_in rows = asked_by_names (first_of (codes "trace") rows) (first_of (codes "world") rows) (first_of (codes "events") rows)

abbrev pub asked_in_words : List Text → Option Asked
asked_in_words words = unless_refused (fault_of command_line words) (asked_in (matches_of command_line words))
