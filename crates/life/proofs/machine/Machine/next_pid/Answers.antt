use Rattle.std.proofs.Common.{refl, ap, ◌∙◌}
use Rattle.posix.specs.Common.{State, next_pid}
use Rattle.life.proofs.SoundLemmas.{next_is}
use Rattle.life.proofs.ViewLemmas.{state_is}
use Rattle.life.proofs.machine.Machine.next_pid.Goals as goal

pub returns-clause-value : goal.returns-clause-value
returns-clause-value g c = c.next.ensures.value ∙ next_is _ _ _ refl c.self.invariant.sound ∙ ap (λ (s : State). next_pid s) (state_is c.self.view_is)
