use Rattle.trace.proofs.SinkLemmas.{break_on}
use Rattle.posix.proofs.ResultLemmas.{on_err}
use Rattle.inputs.proofs.PutLemmas.{break_behind}
use Rattle.inputs.proofs.failure.put_both.Goals as goal

pub returns-in_err-put_all-clause-err : goal.returns-in_err-put_all-clause-err
returns-in_err-put_all-clause-err g c = on_err c.from_residual.result (break_on _ _ c.args.first.now c.args.second.now c.in_err-put_all.ensures.err)

pub returns-clause-err : goal.returns-clause-err
returns-clause-err g c = break_behind c.put_all-2.result _ _ _ c.args.first.now c.args.second.now c.in_ok-put_all.ensures.ok c.put_all-2.ensures.err
