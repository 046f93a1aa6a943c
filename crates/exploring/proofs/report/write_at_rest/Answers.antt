use Rattle.std.proofs.Common.{◌≡◌, ◌∙◌, ap, sym, false}
use Rattle.std.specs.Prelude.{◌==◌}
use Rattle.exploring.proofs.ReportLemmas.{at_rest_added}
use Rattle.exploring.proofs.report.write_at_rest.Goals as goal

pub returns : goal.returns
returns c =
    let some : (c.args.endings.now.alarmed.count == 0) ≡ false = sym (c.is_zero.ensures ∙ ap (λ n. n == 0) c.count-alarmed.ensures) ∙ c.if-is_zero.false in
    at_rest_added _ _ _ c.args.endings.now c.write_ending-2.result some (rw c.count-resting.ensures at c.in_ok-write_ending.ensures)
    (rw c.count-alarmed.ensures at c.write_ending-2.ensures)
