use Rattle.std.proofs.Common.{arith, sym}
use Rattle.std.proofs.lemmas.Option.{slice_get_past}
use Rattle.schedules.proofs.AddLemmas.{run_ends}
use Rattle.counting.proofs.PlacingLemmas.{all_runs, event_in_run}
use Rattle.counting.proofs.placing.event_at.Goals as goal

pub loop-run-preserved : goal.loop-run-preserved
loop-run-preserved c =
    let l = c.loop-run in
    let on = (run_ends c.runs-run-items.result.now l.run-index l.before c.run-item.result c.args.events.now c.loop-run-test.true c.run-item.is c.runs-run-items.ensures l.invariant.at).0 in
    record {
      at = omega (arith, on, c.count-before.ensures);
      from = omega (arith, c.count-before.ensures, c.count.ensures, c.if-place-before.false, l.invariant.from);
    }

pub returns-then-place-before : goal.returns-then-place-before
returns-then-place-before c =
    let l = c.loop-run in
    rw c.event.ensures
    (event_in_run c.runs-run-items.result.now l.run-index l.before c.args.place c.run-item.result c.args.events.now c.loop-run-test.true c.run-item.is c.runs-run-items.ensures l.invariant.at l.invariant.from
    (omega (arith, c.count.ensures, c.if-place-before.true)))

pub returns : goal.returns
returns c =
    let l = c.loop-run in
    let all = all_runs c.runs-run-items.result.now l.run-index l.before c.args.events.now c.loop-run-test.false c.runs-run-items.ensures l.invariant.at in
    sym (slice_get_past c.args.events.now c.args.place (omega (arith, all, l.invariant.from)))
