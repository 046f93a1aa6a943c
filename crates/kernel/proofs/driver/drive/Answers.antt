use Rattle.std.proofs.Common.{◌≡◌, ◌+◌, ◌-◌, ◌++◌, ◌≤◌, ℕ, List, length, take, drop, ap, ap₂, sym, ◌∙◌, arith}
use Rattle.std.specs.Prelude.{replicate}
use Rattle.posix.specs.declared.event.Event.{Event}
use Rattle.text.specs.EventLists.{expanded, run_events}
use Rattle.kernel.proofs.RunLemmas.{breaks_next, shows_next}
use Rattle.kernel.proofs.EventLemmas.{expanded_more, expanded_split, run_fits, events_more}
use Rattle.posix.proofs.ResultLemmas.{on_err}
use Rattle.kernel.proofs.driver.drive.Goals as goal

pub drive_to-requires-clause-few : goal.drive_to-requires-clause-few
drive_to-requires-clause-few g c =
    let fits = run_fits c.runs-run-items.result.now c.run-item.result c.loop-run.kernel.events c.args.kernel.now.events c.loop-run.run-index _ c.args.events.now
    c.loop-run-test.true c.run-item.is c.runs-run-items.ensures c.loop-run.invariant.events c.requires in
    omega (arith, fits, c.count.ensures, c.events.ensures)

pub overflow_add-last : goal.overflow_add-last
overflow_add-last g c =
    let fits = run_fits c.runs-run-items.result.now c.run-item.result c.loop-run.kernel.events c.args.kernel.now.events c.loop-run.run-index _ c.args.events.now
    c.loop-run-test.true c.run-item.is c.runs-run-items.ensures c.loop-run.invariant.events c.requires in
    let few : c.loop-run.kernel.events + c.run-item.result.count ≤ 1000000000000 = fits in
    omega (arith, few, c.count.ensures, c.events.ensures)

pub returns-in_err-drive_to-clause-within : goal.returns-in_err-drive_to-clause-within
returns-in_err-drive_to-clause-within g c =
    let fits = run_fits c.runs-run-items.result.now c.run-item.result c.loop-run.kernel.events c.args.kernel.now.events c.loop-run.run-index (c.args.kernel.now.events + length c.args.events.now) c.args.events.now
    c.loop-run-test.true c.run-item.is c.runs-run-items.ensures c.loop-run.invariant.events (omega arith) in
    omega (arith, fits, c.count.ensures, c.events.ensures, c.drive_to.ensures.within)

pub loop-run-preserved : goal.loop-run-preserved
loop-run-preserved g c =
    let items = c.runs-run-items.result.now in
    let l = c.loop-run in
    let r = c.run-item.result in
    let count = c.count.ensures in
    let one : replicate (c.events.result + c.count.result - l.kernel.events) c.event.result ≡ run_events r = ap₂ (λ (n : ℕ) (x : Event). replicate n x) (omega (arith, count, c.events.ensures)) c.event.ensures in
    record {
      shows = shows_next _ (l.kernel.events + 1) (expanded (take l.run-index items)) _ _ _ _ _ _ _ _
          (omega (arith, l.invariant.events)) (ap (λ (xs : List Event). expanded (take l.run-index items) ++ xs) one ∙ sym (expanded_more items l.run-index r c.loop-run-test.true c.run-item.is))
          (g.met.O.Observer.hears_then _ _ _ _ _ _) l.invariant.shows c.in_ok-drive_to.ensures.ok;
      events = events_more items r l.run-index c.args.kernel.now.events l.kernel.events _ c.loop-run-test.true c.run-item.is l.invariant.events (omega (arith, c.in_ok-drive_to.ensures.events, count, c.events.ensures));
    }

pub returns-in_err-drive_to-clause-err : goal.returns-in_err-drive_to-clause-err
returns-in_err-drive_to-clause-err g c =
    let items = c.runs-run-items.result.now in
    let l = c.loop-run in
    let r = c.run-item.result in
    let count = c.count.ensures in
    let one : replicate (c.events.result + c.count.result - l.kernel.events) c.event.result ≡ run_events r = ap₂ (λ (n : ℕ) (x : Event). replicate n x) (omega (arith, count, c.events.ensures)) c.event.ensures in
    on_err c.from_residual.result
    (breaks_next _ (l.kernel.events + 1) (expanded (take l.run-index items)) _ (expanded (drop (l.run-index + 1) items)) _ _ _ _ _ _ _
    (omega (arith, l.invariant.events))
    (ap (λ (xs : List Event). (expanded (take l.run-index items) ++ xs) ++ expanded (drop (l.run-index + 1) items)) one ∙ expanded_split items l.run-index r c.loop-run-test.true c.run-item.is ∙ c.runs-run-items.ensures)
    (g.met.O.Observer.fails_then _ _ _ _ _) l.invariant.shows c.in_err-drive_to.ensures.err)
