use Rattle.kernel.proofs.RunLemmas.{stops_break, writes_break}
use Rattle.posix.proofs.ResultLemmas.{on_err}
use Rattle.kernel.proofs.progress.write_trace.Goals as goal

pub returns-in_err-drive-clause-err : goal.returns-in_err-drive-clause-err
returns-in_err-drive-clause-err g c = on_err c.from_residual.result (stops_break _ _ _ _ _ _ c.new.result c.new.ensures c.in_err-drive.ensures.err)

pub returns-in_err-flush-clause-err : goal.returns-in_err-flush-clause-err
returns-in_err-flush-clause-err g c =
    on_err c.from_residual-in_err-flush.result (writes_break _ _ _ _ _ (g.S.Sink.seen c.drive.new.to) _ c.new.result _ _ _ c.new.ensures c.in_ok-drive.ensures.ok c.in_err-flush.ensures.err)
