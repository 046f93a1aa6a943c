-- What the arguments of `run` and `audit` ask for.
use Rattle.std.specs.Prelude.{List, Option, codes}
use Rattle.inputs.specs.Reads.{Text}
use Rattle.inputs.specs.Words.{file_in_words, files_in_words}

-- the names of a world and of events, by the arguments after `run`
abbrev pub run_asked : List Text → Option (Text × Text)
run_asked words = files_in_words (codes "run") words

-- the name of a trace, by the arguments after `audit` or `explain --audit`
abbrev pub audit_asked : List Text → Option Text
audit_asked words = file_in_words (codes "audit") (codes "trace") words
