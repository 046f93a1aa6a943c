use Rattle.std.proofs.Common.{◌∙◌, arith}
use Rattle.trace.proofs.ReadingLemmas.{both}
use Rattle.trace.proofs.EntryLemmas.{says_guess, says_few, said_of_guess}
use Rattle.trace.proofs.reading.read_line.Goals.{else-is_line-via-then-is_line+else-is_printed, else-is_line-via-else-is_line}
use Rattle.trace.proofs.reading.read_line.Goals as goal

pub returns-then-text-gt-MAX_LEN-clause-none : goal.returns-then-text-gt-MAX_LEN-clause-none
returns-then-text-gt-MAX_LEN-clause-none c = λ l says. absurd (omega (arith, says_few c.args.text.now l says, c.if-text-gt-MAX_LEN.true))

pub returns-in_err-event-clause-none : goal.returns-in_err-event-clause-none
returns-in_err-event-clause-none c =
    let nothing = c.in_err-event.ensures in
    rw c.from_residual.ensures (λ l says. let guessed = nothing ∙ says_guess c.args.text.now l says in absurd (cc))

pub returns-else-is_line-clause-none : goal.returns-else-is_line-clause-none
returns-else-is_line-clause-none c = λ l says.
    let said = said_of_guess c.args.text.now c.in_ok-event.event c.in_ok-event.entry c.in_ok-event.ensures l says in
    elim c.else-is_line.branch [
      | else-is_line-via-then-is_line+else-is_printed w ↦ both (w.is_printed.ensures.1 said.0) w.if-is_printed.false
      | else-is_line-via-else-is_line w ↦ both (c.is_line.ensures ∙ said.1) w.if-is_line.false
    ]
