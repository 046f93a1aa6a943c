use Rattle.std.proofs.Common.{◌≡◌, rules, subst, sym, None, false, true}
use Rattle.posix.specs.declared.event.Event.TheVariants.{Step}
use Rattle.posix.specs.Common.{silent, next, current}
use Rattle.posix.proofs.CountLemmas.{next_halted}
use Rattle.kernel.proofs.EventLemmas.{rest_idle}
use Rattle.kernel.proofs.kernel_on.KernelOn.is_idle.Goals as goal

pub returns-then-is_halted-clause-idle : goal.returns-then-is_halted-clause-idle
returns-then-is_halted-clause-idle g c = λ _. next_halted true c.args.self.now.state c.args.event (search rules)

pub returns-then-matches-clause-idle : goal.returns-then-matches-clause-idle
returns-then-matches-clause-idle g c = λ none.
    let s = c.args.self.now.state in
    let is : c.args.event ≡ Step = search rules in
    let going : s.halted ≡ false = search rules in
    let nobody : current s ≡ None = search rules in
    subst (λ event. next true s event ≡ silent s) (sym is) (rest_idle s going nobody (search rules) (search rules))
