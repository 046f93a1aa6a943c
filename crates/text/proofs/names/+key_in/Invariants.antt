use Rattle.std.proofs.Common.{length}
use Rattle.text.proofs.names.+key_in.Given as goal

abbrev pub decreases-key_in : goal.decreases-key_in
decreases-key_in l = length l.bytes.now
