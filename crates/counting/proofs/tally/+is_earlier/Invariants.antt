use Rattle.std.proofs.Common.{length}
use Rattle.counting.proofs.tally.+is_earlier.Given as goal

abbrev pub decreases-is_earlier : goal.decreases-is_earlier
decreases-is_earlier l = length l.spots.now
