use Rattle.exploring.proofs.ReportLemmas.{four_lines}
use Rattle.exploring.proofs.report.write_endings.Goals as goal

pub returns : goal.returns
returns c =
    four_lines _ _ _ _ _ _ _ _ _ c.write_ending-2.result c.in_ok-write_size.ensures (rw c.count.ensures at c.in_ok-write_ending.ensures) c.in_ok-write_at_rest.ensures
    (rw c.count-2.ensures at c.write_ending-2.ensures)
