use Rattle.std.proofs.Common.{append_assoc}
use Rattle.trace.proofs.print.put_mark.Goals as goal

pub returns-clause-text : goal.returns-clause-text
returns-clause-text c = rw (c.put_bit.ensures.text, c.put-at.ensures.text, c.put_call-at.ensures.text) (simp append_assoc)
