use Rattle.std.proofs.Common.{length}
use Rattle.counting.proofs.pattern.+matches_front.Given as goal

abbrev pub decreases-matches_front : goal.decreases-matches_front
decreases-matches_front l = length l.kinds.now
