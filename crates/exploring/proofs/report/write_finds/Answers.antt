use Rattle.exploring.proofs.ReportLemmas.{finds_added}
use Rattle.exploring.proofs.report.write_finds.Goals as goal

pub loop-find-preserved : goal.loop-find-preserved
loop-find-preserved c =
    finds_added _ _ _ c.args.family.now.loose.now c.args.family.now.events.now c.args.finds.now c.loop-find.find-index c.find-item.result c.loop-find-test.true c.find-item.is c.loop-find.invariant c.in_ok-write_find.ensures
