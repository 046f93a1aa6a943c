-- What an exit status of the program means, for all arguments.
use Rattle.std.specs.Prelude.{◌≡◌, ℕ, List, Option, None, Some, Result, Ok, Err, map}
use Rattle.std.specs.Borrow.{Bor}
use Rattle.inputs.specs.Reads.{Contents, Text}
use Rattle.inputs.specs.declared.command_line.WordsFault.{WordsFault}
use Rattle.inputs.specs.declared.command_line.WordsFault.TheVariants.{NotText, Memory}
use Rattle.trace.specs.Sinks.{Seen}
use Rattle.commands.specs.Commands.{ServesAs, purpose_of}
use Rattle.commands.specs.Named.{ServesNamed, named_in, place_in}

-- The arguments of the command line, or why they cannot be read.
abbrev pub Words : Type 0
Words = Result (Bor (List (Bor Text))) WordsFault

-- what an exit status means, by the command with `--names` and the arguments after it, or by all arguments
abbrev pub ServesWords : {S : Type 0} → Contents → List Text → S → S → Seen → Seen → ℕ → Option (Text × List Text) → Type 0
ServesWords contents words old new before after status None = ServesAs contents old new before after status (purpose_of words)
ServesWords contents words old new before after status (Some named) = ServesNamed contents named.0 (place_in named.1) old new before after status

abbrev pub Serves : {S : Type 0} → Contents → Words → S → S → Seen → Seen → ℕ → Type 0
Serves contents (Ok words) old new before after status =
    let texts = map (λ w. w.now) words.now in ServesWords contents texts old new before after status (named_in texts)
Serves contents (Err NotText) old new before after status = (status ≡ 2) × (new ≡ old)
Serves contents (Err Memory) old new before after status = (status ≡ 3) × (new ≡ old)
