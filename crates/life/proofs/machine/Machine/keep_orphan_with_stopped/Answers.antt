use Rattle.std.proofs.Common.{subst, sym}
use Rattle.pidset.specs.Numbers.{Rises}
use Rattle.pidset.proofs.NumberLemmas.{rises_without}
use Rattle.life.proofs.AtRiskLemmas.{noted_again}
use Rattle.life.proofs.machine.Machine.keep_orphan_with_stopped.Goals as goal

pub invariant_of-self : goal.invariant_of-self
invariant_of-self g c = noted_again c.self.invariant (subst Rises (sym c.remove.ensures.pids) (rises_without c.args.group _ c.self.invariant.noted.rising)) c.remove.ensures.room
