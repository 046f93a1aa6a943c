use Rattle.std.proofs.Common.{arith, take}
use Rattle.text.specs.EventLists.{expanded}
use Rattle.schedules.proofs.AddLemmas.{run_ends}
use Rattle.counting.proofs.PlacingLemmas.{part_fits, part_more, part_of_all}
use Rattle.counting.proofs.placing.events_between.Goals as goal

pub overflow_add-before : goal.overflow_add-before
overflow_add-before c =
    let l = c.loop-run in
    let ends = run_ends c.runs-run-items.result.now l.run-index l.before c.run-item.result c.args.events.now c.loop-run-test.true c.run-item.is c.runs-run-items.ensures l.invariant.at in
    omega (arith, ends.1, c.requires, c.count-before.ensures)

pub push-requires : goal.push-requires
push-requires c =
    let l = c.loop-run in
    let items = c.runs-run-items.result.now in
    let r = c.run-item.result in
    let ends = run_ends items l.run-index l.before r c.args.events.now c.loop-run-test.true c.run-item.is c.runs-run-items.ensures l.invariant.at in
    let fits = part_fits l.part (expanded (take l.run-index items)) l.before c.args.from c.args.to r.count c.saturating_sub.result 1000000000000 l.invariant.part l.invariant.at (omega (arith, ends.1, c.requires))
    (omega (arith, c.count-before.ensures, c.max-first.ensures, c.min.ensures, c.saturating_sub.ensures)) in
    omega (arith, fits)

pub loop-run-preserved : goal.loop-run-preserved
loop-run-preserved c =
    let l = c.loop-run in
    let items = c.runs-run-items.result.now in
    let r = c.run-item.result in
    let ends = run_ends items l.run-index l.before r c.args.events.now c.loop-run-test.true c.run-item.is c.runs-run-items.ensures l.invariant.at in
    record {
      at = omega (arith, ends.0, c.count-before.ensures);
      part = part_more items l.run-index l.before c.args.from c.args.to c.saturating_sub.result r c.event.result l.part c.push.new.self c.loop-run-test.true c.run-item.is l.invariant.at c.event.ensures
          (omega (arith, c.count-before.ensures, c.max-first.ensures, c.min.ensures, c.saturating_sub.ensures)) l.invariant.part c.in_ok-push.ensures.ok;
    }

pub returns : goal.returns
returns c = part_of_all c.runs-run-items.result.now c.loop-run.run-index c.args.from c.args.to c.loop-run.part c.args.events.now c.loop-run-test.false c.runs-run-items.ensures c.loop-run.invariant.part
