use Rattle.std.proofs.Common.{subst}
use Rattle.posix.specs.Common.{State, IsNext, wakes}
use Rattle.life.proofs.RecheckLemmas.{first_rechecked}
use Rattle.life.proofs.ViewLemmas.{state_is}
use Rattle.life.proofs.machine.Machine.first_to_recheck.Goals as goal

pub returns-clause-next : goal.returns-clause-next
returns-clause-next g c =
    subst (λ (s : State). IsNext (wakes s) 0 s.processes c.first.result) (state_is c.self.view_is) (first_rechecked _ _ c.first.result c.self.invariant.sound.regular c.self.invariant.listed c.first.ensures.is)
