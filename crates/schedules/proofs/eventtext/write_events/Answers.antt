use Rattle.std.proofs.Common.{map, refl, replicate, subst, arith}
use Rattle.std.specs.String.{string_bytes}
use Rattle.posix.specs.declared.event.Event.TheVariants.{Key}
use Rattle.text.specs.EventLists.{CountedEvent}
use Rattle.schedules.specs.EventLines.{AddsFirst}
use Rattle.schedules.proofs.AddLemmas.{nothing_yet, run_ends, run_put, all_put}
use Rattle.schedules.proofs.eventtext.write_events.Goals as goal

pub loop-run-init : goal.loop-run-init
loop-run-init c = record { at = refl; adds = nothing_yet (string_bytes c.args.text.now) 0 c.new.result.items c.new.ensures }

pub overflow_add-start : goal.overflow_add-start
overflow_add-start c =
    let ends = run_ends c.runs-run-items.result.now c.loop-run.run-index c.loop-run.start c.run-item.result c.args.events.now c.loop-run-test.true c.run-item.is c.runs-run-items.ensures c.loop-run.invariant.at in
    omega (arith, ends.1, c.requires, c.count-start.ensures)

pub put_run-requires : goal.put_run-requires
put_run-requires c =
    let ends = run_ends c.runs-run-items.result.now c.loop-run.run-index c.loop-run.start c.run-item.result c.args.events.now c.loop-run-test.true c.run-item.is c.runs-run-items.ensures c.loop-run.invariant.at in
    omega (arith, ends.1, c.requires)

pub loop-run-preserved : goal.loop-run-preserved
loop-run-preserved c =
    let before = string_bytes c.loop-run.text in
    let after = string_bytes c.put_run.new.text in
    let waited = map (Key c.loop-run.keys.console) c.loop-run.keys.bytes.items in
    let wait = map (Key c.put_run.new.keys.console) c.put_run.new.keys.bytes.items in
    let runs = c.runs-run-items.result.now in
    let i = c.loop-run.run-index in
    let ends = run_ends runs i c.loop-run.start c.run-item.result c.args.events.now c.loop-run-test.true c.run-item.is c.runs-run-items.ensures c.loop-run.invariant.at in
    record {
      at = omega (arith, ends.0, c.count-start.ensures);
      adds = run_put (string_bytes c.args.text.now) before after waited wait runs i c.run-item.result c.loop-run-test.true c.loop-run.invariant.adds
          (subst (λ (r : CountedEvent). AddsFirst before waited (replicate r.count r.event) after wait) c.run-item.is c.in_ok-put_run.ensures);
    }

pub returns : goal.returns
returns c =
    let ended = c.in_ok-end_keys.ensures in
    all_put (string_bytes c.args.text.now) (string_bytes c.loop-run.text) (string_bytes c.end_keys.new.text) (map (Key c.loop-run.keys.console) c.loop-run.keys.bytes.items)
    c.end_keys.new.keys.console c.end_keys.new.keys.bytes.items c.runs-run-items.result.now c.loop-run.run-index c.args.events.now c.loop-run-test.false c.loop-run.invariant.adds
    ended.adds ended.none c.runs-run-items.ensures c.requires
