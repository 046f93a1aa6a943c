use Rattle.std.proofs.Common.{◌≡◌}
use Rattle.showing.specs.Comparisons.{line_at}
use Rattle.showing.proofs.comparing_sink.line_at.Given as goal

abbrev pub invariant-loop-byte : goal.invariant-loop-byte
invariant-loop-byte l = l.number ≡ line_at l.byte-items l.byte-index
