use Rattle.posix.specs.Common.{enter}
use Rattle.life.proofs.LoanLemmas.{was_written}
use Rattle.kernel.proofs.step.enter_call.Goals as goal

pub returns-clause-state : goal.returns-clause-state
returns-clause-state g c = was_written _ c.args.pid c.own.result.now c.enter.new.self (enter c.args.blocked) c.own.ensures.regular c.own.ensures.value c.enter.ensures
