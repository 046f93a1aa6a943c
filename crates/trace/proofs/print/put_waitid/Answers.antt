use Rattle.std.proofs.Common.{append_assoc}
use Rattle.trace.proofs.print.put_waitid.Goals as goal

pub returns-clause-text : goal.returns-clause-text
returns-clause-text c =
    rw (c.put_next.ensures.text, c.put-at-2.ensures.text, c.put_number-at.ensures.text, c.put-at.ensures.text, c.put_call-at.ensures.text)
    (simp (append_assoc, c.from.ensures, c.number.ensures.value, c.from-2.ensures, c.word.ensures.value))
