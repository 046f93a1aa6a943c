use Rattle.exploring.proofs.ReportLemmas.{first_added}
use Rattle.exploring.proofs.report.write_first.Goals as goal

pub returns : goal.returns
returns c =
    first_added _ _ _ _ c.args.family.now.loose.now c.args.family.now.events.now c.args.tally.now.first c.in-Some.spots.now c.write_schedule.result c.in-Some.ensures c.in_ok-writeln.ensures.bytes c.write_schedule.ensures
