use Rattle.std.proofs.Common.{◌+◌, ◌-◌, length, ap, arith}
use Rattle.std.specs.Prelude.{replicate}
use Rattle.std.proofs.lemmas.List.{length-replicate}
use Rattle.kernel.proofs.RunLemmas.{breaks_all, breaks_next, shows_next, shows_once}
use Rattle.kernel.proofs.EventLemmas.{replicate_joined, replicate_three}
use Rattle.posix.proofs.ResultLemmas.{on_err}
use Rattle.kernel.proofs.driver.drive_to.Goals as goal

pub loop-event-preserved : goal.loop-event-preserved
loop-event-preserved g c =
    let from = c.args.kernel.now.events in
    let mid = c.loop-event.kernel.events in
    let to = c.repeat-pid.new.self.events in
    let x = c.args.event in
    let i = c.loop-event.invariant in
    let e = c.repeat-pid.ensures in
    record {
      shows = shows_next _ (mid + 1) (replicate (mid - from) x) (replicate (to - mid) x) (replicate (to - from) x) _ _ _ _ _ _
          (omega (arith, length-replicate (mid - from) x, i.from)) (replicate_joined (mid - from) (to - mid) (to - from) x (omega (arith, i.from, e.from)))
          (g.met.O.Observer.hears_then _ _ _ _ _ _) i.shows
          (shows_once (mid + 1) c.events-in-loop-event.result to (to - mid) c.repeat-pid.result x _ _ c.repeat-pid.new.notes.items c.as_slice.result.now c.repeat-pid.new.entries.items c.as_slice-in-loop-event.result.now _
          (omega (arith, e.from)) c.as_slice.ensures.value c.events-in-loop-event.ensures c.as_slice-in-loop-event.ensures.value (omega (arith, c.as_slice-in-loop-event.ensures.fits, ap length c.as_slice-in-loop-event.ensures.value)) e.runs c.in_ok-hear.ensures.ok);
      from = omega (arith, i.from, e.from);
      within = omega (arith, e.within);
    }

pub returns-in_err-hear-clause-err : goal.returns-in_err-hear-clause-err
returns-in_err-hear-clause-err g c =
    let from = c.args.kernel.now.events in
    let mid = c.loop-event.kernel.events in
    let to = c.repeat-pid.new.self.events in
    let x = c.args.event in
    let i = c.loop-event.invariant in
    let e = c.repeat-pid.ensures in
    on_err c.from_residual.result
    (breaks_next _ (mid + 1) (replicate (mid - from) x) (replicate (to - mid) x) (replicate (c.args.last - to) x) _ _ _ _ _ _ _
    (omega (arith, length-replicate (mid - from) x, i.from)) (replicate_three (mid - from) (to - mid) (c.args.last - to) (c.args.last - from) x (omega (arith, i.from, e.from, e.within)))
    (g.met.O.Observer.fails_then _ _ _ _ _) i.shows
    (breaks_all _ _ _ _ _
    (shows_once (mid + 1) c.events-in-loop-event.result to (to - mid) c.repeat-pid.result x _ _ c.repeat-pid.new.notes.items c.as_slice.result.now c.repeat-pid.new.entries.items c.as_slice-in-loop-event.result.now _
    (omega (arith, e.from)) c.as_slice.ensures.value c.events-in-loop-event.ensures c.as_slice-in-loop-event.ensures.value (omega (arith, c.as_slice-in-loop-event.ensures.fits, ap length c.as_slice-in-loop-event.ensures.value)) e.runs c.in_err-hear.ensures.err)))
