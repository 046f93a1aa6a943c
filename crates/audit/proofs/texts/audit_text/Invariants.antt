use Rattle.std.proofs.Common.{◌+◌, ◌≤◌, length}
use Rattle.audit.proofs.TextLemmas.{HasHeard}
use Rattle.audit.proofs.texts.audit_text.Given as goal

abbrev pub invariant-loop-line : goal.invariant-loop-line
invariant-loop-line l = record { heard : HasHeard l.fn.text l.number l.rest l.audit; within : l.number + length l.rest ≤ length l.fn.text + 1 }

abbrev pub decreases-loop-line : goal.decreases-loop-line
decreases-loop-line l = length l.rest
