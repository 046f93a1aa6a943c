use Rattle.posix.specs.Common.{finished, results_of}
use Rattle.life.proofs.LoanLemmas.{was_written}
use Rattle.calls.proofs.waits.report.Goals as goal

pub returns-clause-state : goal.returns-clause-state
returns-clause-state g c =
    was_written c.args.machine.now.state c.args.pid c.own.result.now c.finish_wait.new.self (finished (results_of c.args.call c.args.child c.args.status)) c.own.ensures.regular c.own.ensures.value c.finish_wait.ensures
