use Rattle.std.proofs.Common.{List, ◌++◌, map, drop}
use Rattle.std.specs.String.{string_bytes}
use Rattle.inputs.specs.Reads.{Text}
use Rattle.commands.specs.Options.{ArePlain, first_option}
use Rattle.commands.proofs.options.plain_options.Given as goal

-- What replaces the remaining options, after what replaced the first ones, replaces all.
abbrev pub invariant-loop-word : goal.invariant-loop-word
invariant-loop-word l = (more : List Text) → ArePlain l.next (map (λ w. w.now) (drop l.word-index l.options)) more
    → ArePlain (first_option l.command) (map (λ w. w.now) l.options) (map string_bytes l.plain.items ++ more)
