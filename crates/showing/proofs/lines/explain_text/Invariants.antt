use Rattle.std.proofs.Common.{length}
use Rattle.showing.proofs.ExplanationLemmas.{HasTold}
use Rattle.showing.proofs.lines.explain_text.Given as goal

abbrev pub invariant-loop-line : goal.invariant-loop-line
invariant-loop-line g l = HasTold (g.O.Sink.seen l.fn.out) l.fn.trace l.rest (g.O.Sink.seen l.out) l.waiting.items

abbrev pub decreases-loop-line : goal.decreases-loop-line
decreases-loop-line g l = length l.rest
