use Rattle.std.proofs.Common.{length}
use Rattle.merging.proofs.spot_list.+is_earlier.Given as goal

abbrev pub decreases-is_earlier : goal.decreases-is_earlier
decreases-is_earlier l = length l.runs.now
