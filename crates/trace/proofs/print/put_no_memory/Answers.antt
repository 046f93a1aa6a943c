use Rattle.std.proofs.Common.{append_assoc}
use Rattle.trace.proofs.print.put_no_memory.Goals as goal

pub returns-clause-text : goal.returns-clause-text
returns-clause-text c = rw (c.put.ensures.text, c.put_call-at.ensures.text) (simp append_assoc)
