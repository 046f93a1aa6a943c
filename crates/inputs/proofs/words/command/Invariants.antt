use Rattle.std.proofs.Common.{◌≡◌, map, take, fold}
use Rattle.clap.specs.Words.{app_of}
use Rattle.inputs.specs.Words.{with_files, with_option}
use Rattle.inputs.proofs.words.command.Given as goal

abbrev pub invariant-loop-name : goal.invariant-loop-name
invariant-loop-name l = app_of l.command ≡ fold with_option (with_files l.fn.program) (map (λ o. (o.0.now, o.1)) (take l.name-index l.options))
