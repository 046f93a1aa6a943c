use Rattle.std.proofs.Common.{ap, sym, subst, refl, true, pos}
use Rattle.std.specs.Option.{IsSome}
use Rattle.posix.specs.declared.call.Call.TheVariants.{SchedYield}
use Rattle.posix.specs.Common.{State, process, go_last, finish_with, attempt}
use Rattle.posix.proofs.TableLemmas.{pid_looked}
use Rattle.posix.proofs.OrderLemmas.{placed_some}
use Rattle.life.proofs.ViewLemmas.{state_is}
use Rattle.calls.proofs.CallLemmas.{gives_is}
use Rattle.calls.proofs.attempts.sched_yield.Goals as goal

pub finish_with-requires-clause-there : goal.finish_with-requires-clause-there
finish_with-requires-clause-there g c =
    let s = c.args.machine.now.state in
    subst (λ (t : State). IsSome (process t c.args.pid)) (sym (state_is c.go_last.ensures)) (placed_some s.processes c.args.pid c.requires.acting.placed)

pub returns-clause-attempts : goal.returns-clause-attempts
unfolding attempt
returns-clause-attempts g c = λ me e.
    let s = c.args.machine.now.state in
    let p = c.args.pid in
    let named = pid_looked p s.processes me e in (
      true,
      gives_is s (go_last s p) _ _ _ p SchedYield (pos 0) (pos 0) _ _ _ (ap (λ q. finish_with (go_last s q) q SchedYield (pos 0)) named)
          c.finish_with.ensures.done c.finish_with.ensures.state (state_is c.go_last.ensures) c.finish_with.ensures.shown refl,
    )
