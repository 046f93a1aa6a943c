use Rattle.std.proofs.Common.{sym, ◌∙◌}
use Rattle.counting.proofs.PatternLemmas.{front_matches}
use Rattle.counting.proofs.pattern.+matches_from.Goals as goal

pub returns-then-matches_front : goal.returns-then-matches_front
returns-then-matches_front t c = front_matches c.args.pattern.now c.args.kinds.now c.args.line.now (sym c.matches_front.ensures ∙ c.if-matches_front.true)
