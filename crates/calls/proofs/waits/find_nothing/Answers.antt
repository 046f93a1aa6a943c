use Rattle.posix.specs.Common.{finished, results_of_nothing}
use Rattle.life.proofs.LoanLemmas.{was_written}
use Rattle.calls.proofs.waits.find_nothing.Goals as goal

pub returns-clause-state : goal.returns-clause-state
returns-clause-state g c =
    was_written c.args.machine.now.state c.args.pid c.own.result.now c.finish_without_child.new.self (finished (results_of_nothing c.args.call)) c.own.ensures.regular c.own.ensures.value c.finish_without_child.ensures
