use Rattle.exploring.proofs.ReportLemmas.{reported}
use Rattle.exploring.proofs.report.report.Goals as goal

pub returns : goal.returns
returns c =
    reported c.args.family.now.loose.now c.args.family.now.events.now c.args.family.now.upto c.args.family.now.ticks c.args.book.now c.states.result _ _ _ _ _ _ _ c.as_str.result.now c.new-text.ensures.bytes
    (rw (c.endings-endings.ensures, c.total.ensures) at c.in_ok-write_endings.ensures) c.in_ok-write_states.ensures
    (rw c.endings-endings.ensures at c.in_ok-write_first.ensures) (rw c.endings-endings.ensures at c.in_ok-write_first-2.ensures)
    (rw c.finds.ensures at c.in_ok-write_finds.ensures) c.in_ok-push_str.ensures.bytes
