use Rattle.std.proofs.Common.{ap, sym, ◌∙◌}
use Rattle.posix.specs.Common.{Line}
use Rattle.trace.proofs.EntryLemmas.{says_one}
use Rattle.counting.specs.Patterns.{has_pattern}
use Rattle.counting.proofs.samples.is_line_with.Goals as goal

pub returns-in-Some-clause-without : goal.returns-in-Some-clause-without
returns-in-Some-clause-without c = λ no l says.
    ap (λ (m : Line). has_pattern c.args.pattern.now m.entry) (says_one _ l _ says c.in-Some.ensures.some) ∙ sym c.has_pattern.ensures ∙ no
