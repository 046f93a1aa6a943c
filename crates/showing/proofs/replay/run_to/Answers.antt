use Rattle.std.proofs.Common.{◌≡◌, ◌+◌, ap, arith, length, subst, sym, take, ◌∙◌}
use Rattle.text.specs.EventLists.{expanded}
use Rattle.showing.specs.Pasts.{IsReached}
use Rattle.showing.proofs.PastLemmas.{reached_more}
use Rattle.kernel.proofs.EventLemmas.{events_more, run_fits}
use Rattle.showing.proofs.replay.run_to.Goals.{then-events-stop+in_ok-give_many, else-events-stop}
use Rattle.showing.proofs.replay.run_to.Goals as goal

pub overflow_add-end : goal.overflow_add-end
overflow_add-end g c =
    let l = c.loop-run in
    let at = l.invariant.end in
    let fits = run_fits c.runs-run-items.result.now c.run-item.result l.end 0 l.run-index (length c.args.events.now) c.args.events.now c.loop-run-test.true c.run-item.is c.runs-run-items.ensures (omega (arith, at)) (omega arith) in
    omega (arith, fits, c.count-end.ensures, c.requires)

pub give_many-requires-clause-few : goal.give_many-requires-clause-few
give_many-requires-clause-few g c =
    let l = c.loop-run in
    let at = l.invariant.end in
    let fits = run_fits c.runs-run-items.result.now c.run-item.result l.end 0 l.run-index (length c.args.events.now) c.args.events.now c.loop-run-test.true c.run-item.is c.runs-run-items.ensures (omega (arith, at)) (omega arith) in
    omega (arith, fits, c.count-end.ensures, c.requires, c.min-stop.ensures)

pub returns-in_err-give_many-clause-reached : goal.returns-in_err-give_many-clause-reached
returns-in_err-give_many-clause-reached g c = λ world start.
    let l = c.loop-run in
    let now = c.events.ensures in
    let count = c.count-end.ensures in
    let stop = c.min-stop.ensures in
    let going = c.if-events-stop.true in
    reached_more world c.args.events.now c.runs-run-items.result.now l.run-index c.run-item.result l.replay.kernel c.give_many.new.replay.kernel c.args.replay.now.kernel.events c.args.last l.end c.min-stop.result c.loop-run-test.true
    c.run-item.is c.runs-run-items.ensures l.invariant.end l.invariant.at (omega (arith, stop, count)) (omega (arith, now, going)) c.give_many.ensures.within (rw c.event.ensures at c.give_many.ensures.given) (l.invariant.reached world start)

pub loop-run-preserved : goal.loop-run-preserved
loop-run-preserved g c =
    let l = c.loop-run in
    let now = c.events.ensures in
    let count = c.count-end.ensures in
    let stop = c.min-stop.ensures in
    let at = l.invariant.at in
    let ends = l.invariant.end in
    let more = events_more c.runs-run-items.result.now c.run-item.result l.run-index 0 l.end (l.end + c.count-end.result) c.loop-run-test.true c.run-item.is (omega (arith, ends)) (omega (arith, count)) in
    let end : l.end + c.count-end.result ≡ length (expanded (take (l.run-index + 1) c.runs-run-items.result.now)) = omega (arith, more) in
    elim c.if-events-stop.branch [
      | then-events-stop+in_ok-give_many w ↦
          let given = w.in_ok-give_many.ensures.at in
          let going = w.if-events-stop.true in
          let is = ap (λ p. p.kernel) w.replay-is in
          record {
            end = end;
            at = ap (λ p. p.kernel.events) w.replay-is ∙ omega (arith, given, going, now, stop, at);
            reached = λ world start.
                subst (IsReached world c.args.events.now) (sym is)
                (reached_more world c.args.events.now c.runs-run-items.result.now l.run-index c.run-item.result l.replay.kernel w.give_many.new.replay.kernel c.args.replay.now.kernel.events c.args.last l.end c.min-stop.result
                c.loop-run-test.true c.run-item.is c.runs-run-items.ensures ends at (omega (arith, stop, count)) (omega (arith, now, going)) w.give_many.ensures.within
                (rw w.event.ensures at w.give_many.ensures.given) (l.invariant.reached world start));
          }
      | else-events-stop w ↦
          let over = w.if-events-stop.false in
          let is = ap (λ p. p.kernel) w.replay-is in
          record {
            end = end;
            at = ap (λ p. p.kernel.events) w.replay-is ∙ omega (arith, over, now, stop, at);
            reached = λ world start. subst (IsReached world c.args.events.now) (sym is) (l.invariant.reached world start);
          }
    ]
