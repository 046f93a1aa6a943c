use Rattle.std.proofs.Common.{length}
use Rattle.counting.proofs.pattern.+matches_from.Given as goal

abbrev pub decreases-matches_from : goal.decreases-matches_from
decreases-matches_from l = length l.kinds.now
