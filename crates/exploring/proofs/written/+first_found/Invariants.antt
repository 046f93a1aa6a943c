use Rattle.std.proofs.Common.{length}
use Rattle.exploring.proofs.written.+first_found.Given as goal

abbrev pub decreases-first_found : goal.decreases-first_found
decreases-first_found l = length l.finds.now
