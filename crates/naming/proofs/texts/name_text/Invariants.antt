use Rattle.std.proofs.Common.{length}
use Rattle.naming.proofs.TextLemmas.{HasNamedIf}
use Rattle.naming.proofs.texts.name_text.Given as goal

abbrev pub invariant-loop-line : goal.invariant-loop-line
invariant-loop-line l = HasNamedIf l.fn.text l.rest l.named.items l.told

abbrev pub decreases-loop-line : goal.decreases-loop-line
decreases-loop-line l = length l.rest
