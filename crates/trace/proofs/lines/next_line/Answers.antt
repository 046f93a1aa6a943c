use Rattle.std.proofs.Common.{subst}
use Rattle.memchr.specs.Find.{IsFirstByte, is_byte}
use Rattle.trace.proofs.LineLemmas.{cut_at, cut_nowhere}
use Rattle.trace.proofs.lines.next_line.Goals as goal

pub returns-in_err-end-clause-cut : goal.returns-in_err-end-clause-cut
returns-in_err-end-clause-cut c =
    rw c.from_residual.ensures (cut_nowhere c.args.text.now (subst (IsFirstByte (is_byte 10) c.args.text.now) c.in_err-end.was c.memchr.ensures))

pub returns-clause-cut : goal.returns-clause-cut
returns-clause-cut c = cut_at c.args.text.now c.in_ok-end.end (subst (IsFirstByte (is_byte 10) c.args.text.now) c.in_ok-end.was c.memchr.ensures)
