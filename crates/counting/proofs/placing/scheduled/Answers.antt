use Rattle.std.proofs.Common.{rules, arith, ap, ap₂, length, ◌+◌, ◌++◌, ◌∙◌, sym, drop}
use Rattle.std.proofs.lemmas.List.{drop_all}
use Rattle.text.specs.EventLists.{expanded}
use Rattle.schedules.specs.Schedules.{from_front}
use Rattle.schedules.proofs.AddLemmas.{run_ends}
use Rattle.schedules.proofs.FamilyLemmas.{rises}
use Rattle.schedules.proofs.ScheduledLemmas.{front}
use Rattle.counting.proofs.PlacingLemmas.{all_put, all_runs, runs_left}
use Rattle.counting.proofs.placing.scheduled.Goals as goal

pub loop-run-init : goal.loop-run-init
loop-run-init c =
    let loose = c.args.loose.now in
    let events = c.args.events.now in
    let spots = c.args.spots.now in
    record {
      at = search rules;
      rising = rises (length loose) 0 (length events) spots c.requires.rising c.requires.below (λ k d l. omega arith);
      len = search rules;
      list = ap₂ (λ es xs. es ++ from_front loose 0 xs spots) c.new-list.ensures c.runs-run-items.ensures
          ∙ sym (front loose events spots c.requires.rising (λ k d l. let below = c.requires.below k d l in omega (arith, below)));
    }

pub push_run-requires : goal.push_run-requires
push_run-requires c =
    let l = c.loop-run in
    let ends = run_ends c.runs-run-items.result.now l.run-index l.start c.run-item.result c.args.events.now c.loop-run-test.true c.run-item.is c.runs-run-items.ensures l.invariant.at in
    record {
      loose = c.requires.loose;
      end = omega (arith, ends.1, c.requires.few);
      few = omega (arith, ends.1, c.requires.few, l.invariant.len);
      rising = (length c.args.events.now, l.invariant.rising);
    }

pub overflow_add-start : goal.overflow_add-start
overflow_add-start c =
    let l = c.loop-run in
    let ends = run_ends c.runs-run-items.result.now l.run-index l.start c.run-item.result c.args.events.now c.loop-run-test.true c.run-item.is c.runs-run-items.ensures l.invariant.at in
    omega (arith, ends.1, c.requires.few, c.count-start.ensures)

pub loop-run-preserved : goal.loop-run-preserved
loop-run-preserved c =
    let items = c.runs-run-items.result.now in
    let l = c.loop-run in
    let i = l.run-index in
    let r = c.run-item.result in
    let e = c.in_ok-rest.ensures in
    let ends = run_ends items i l.start r c.args.events.now c.loop-run-test.true c.run-item.is c.runs-run-items.ensures l.invariant.at in
    rw c.count-start.ensures (record {
      at = ends.0;
      rising = e.rising (length c.args.events.now) l.invariant.rising;
      len = omega (arith, e.len, l.invariant.len);
      list = e.list (expanded (drop (i + 1) items))
          ∙ ap (λ xs. l.list ++ from_front c.args.loose.now l.start xs l.rest.now) (sym (runs_left items i r c.loop-run-test.true c.run-item.is))
          ∙ l.invariant.list;
    })

pub returns : goal.returns
returns c =
    let items = c.runs-run-items.result.now in
    let l = c.loop-run in
    let all = all_runs items l.run-index l.start c.args.events.now c.loop-run-test.false c.runs-run-items.ensures l.invariant.at in
    all_put c.args.loose.now l.start (length c.args.events.now) l.list _ _ l.rest.now (omega (arith, all)) l.invariant.rising (ap expanded (drop_all l.run-index items c.loop-run-test.false)) l.invariant.list
