use Rattle.std.proofs.Common.{sym, subst, true}
use Rattle.posix.specs.Common.{change, attempt}
use Rattle.proctable.specs.Records.{give_own}
use Rattle.calls.specs.Outcomes.{Comes}
use Rattle.calls.proofs.OwnLemmas.{answered}
use Rattle.calls.proofs.attempts.attempt.Goals as goal

pub returns-in_default-clause-attempts : goal.returns-in_default-clause-attempts
returns-in_default-clause-attempts g c = λ me e.
    let s = c.args.machine.now.state in (
      true,
      subst (λ q. Comes s (attempt true s me c.args.call) q c.args.entries.now.items c.own_call.new.entries.items (change s c.args.pid (give_own c.own_call.new.own))) (sym c.own_call.ensures.done)
          (answered s c.args.pid c.own.result.now c.own_call.new.own me c.args.call c.args.entries.now.items c.own_call.new.entries.items c.own.ensures.regular c.own.ensures.value e (c.own_call.ensures.answers me)),
    )

pub returns-in-Waitpid-clause-brief : goal.returns-in-Waitpid-clause-brief
returns-in-Waitpid-clause-brief g c = λ me e quiet. rw c.in-Waitpid.is (c.wait.ensures.brief quiet)

pub returns-in-Waitid-clause-brief : goal.returns-in-Waitid-clause-brief
returns-in-Waitid-clause-brief g c = λ me e quiet. rw c.in-Waitid.is (c.wait-in-Waitid.ensures.brief quiet)
