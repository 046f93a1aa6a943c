use Rattle.std.proofs.Common.{append_assoc, refl}
use Rattle.trace.proofs.print.put_take.Goals as goal

pub returns-clause-text : goal.returns-clause-text
returns-clause-text c = rw c.put_waitid.ensures.text (simp append_assoc refl)
