use Rattle.std.proofs.Common.{◌+◌, ◌≤◌, length, arith, subst, ◌∙◌}
use Rattle.std.specs.Io.KnownBytes.{Appends}
use Rattle.std.proofs.KnownBytes.{Appends-trans, Appends-kept}
use Rattle.trace.proofs.SinkLemmas.{slice_more, put_fits, none_counted, some_taken, none_fails, failed_at}
use Rattle.posix.proofs.ResultLemmas.{on_err}
use Rattle.trace.proofs.sinks.put_all.Goals as goal

pub loop-done-preserved : goal.loop-done-preserved
loop-done-preserved g c =
    let le : c.loop-done.done + c.in_ok-taken.taken ≤ length c.args.bytes.now = put_fits c.args.bytes.now c.loop-done.done c.in_ok-taken.taken c.in_ok-taken.ensures.bound (omega arith) in
    record {
      within = le;
      taken = subst (Appends (g.S.Sink.seen c.args.out.now).taken (g.S.Sink.seen c.put.new.self).taken) (slice_more c.args.bytes.now c.loop-done.done c.in_ok-taken.taken le)
          (Appends-trans _ (g.S.Sink.seen c.loop-done.out).taken _ _ _ c.loop-done.invariant.taken c.in_ok-taken.ensures.taken);
      no_failure = c.in_ok-taken.ensures.counted ∙ some_taken _ c.in_ok-taken.taken _ c.if-taken-eq0.false ∙ c.loop-done.invariant.no_failure;
    }

pub returns-in_err-taken-clause-err : goal.returns-in_err-taken-clause-err
returns-in_err-taken-clause-err g c =
    on_err c.from_residual.result
    (failed_at (g.S.Sink.seen c.args.out.now) (g.S.Sink.seen c.loop-done.out) (g.S.Sink.seen c.put.new.self) c.args.bytes.now c.loop-done.done
    c.loop-done.invariant.no_failure c.in_err-taken.ensures.counted c.in_err-taken.ensures.last
    (Appends-kept _ _ _ _ c.loop-done.invariant.taken c.in_err-taken.ensures.taken))

pub returns-then-taken-eq0-clause-err : goal.returns-then-taken-eq0-clause-err
returns-then-taken-eq0-clause-err g c =
    let le : c.loop-done.done + c.in_ok-taken.taken ≤ length c.args.bytes.now = put_fits c.args.bytes.now c.loop-done.done c.in_ok-taken.taken c.in_ok-taken.ensures.bound (omega arith) in
    failed_at (g.S.Sink.seen c.args.out.now) (g.S.Sink.seen c.loop-done.out) (g.S.Sink.seen c.put.new.self) c.args.bytes.now (c.loop-done.done + c.in_ok-taken.taken)
    c.loop-done.invariant.no_failure
    (c.in_ok-taken.ensures.counted ∙ none_counted _ c.in_ok-taken.taken c.args.bytes.now c.loop-done.done c.if-taken-eq0.true (omega arith))
    (c.in_ok-taken.ensures.last ∙ none_fails c.in_ok-taken.taken c.args.bytes.now c.loop-done.done c.if-taken-eq0.true (omega arith))
    (subst (Appends (g.S.Sink.seen c.args.out.now).taken (g.S.Sink.seen c.put.new.self).taken) (slice_more c.args.bytes.now c.loop-done.done c.in_ok-taken.taken le)
    (Appends-trans _ (g.S.Sink.seen c.loop-done.out).taken _ _ _ c.loop-done.invariant.taken c.in_ok-taken.ensures.taken))
