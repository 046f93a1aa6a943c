use Rattle.std.proofs.Common.{sym, ◌∙◌}
use Rattle.counting.proofs.PatternLemmas.{none_matches}
use Rattle.counting.proofs.pattern.+matches_front.Goals as goal

pub returns-then-is_empty : goal.returns-then-is_empty
returns-then-is_empty t c = none_matches c.args.pattern.now c.args.kinds.now c.args.line.now (sym c.is_empty.ensures ∙ c.if-is_empty.true)
