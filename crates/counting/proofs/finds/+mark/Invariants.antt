use Rattle.std.proofs.Common.{length}
use Rattle.counting.proofs.finds.+mark.Given as goal

abbrev pub decreases-mark : goal.decreases-mark
decreases-mark l = length l.texts.now
