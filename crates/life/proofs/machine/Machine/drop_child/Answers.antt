use Rattle.std.proofs.Common.{arith, ap, length}
use Rattle.posix.specs.Common.{State}
use Rattle.life.specs.Machines.{state_of}
use Rattle.life.proofs.PartLemmas.{machine_counted}
use Rattle.life.proofs.ViewLemmas.{state_is}
use Rattle.life.proofs.machine.Machine.drop_child.Goals as goal

pub invariant_of-self : goal.invariant_of-self
invariant_of-self g c =
    let m = c.self.inside in
    let old = state_is c.self.view_is in
    machine_counted (state_of m.world m.table.processes m.consoles.items m.pids m.order m.births m.ticks m.dropped m.halted) _ _ _ _ _
    (omega (arith, ap (λ (s : State). s.dropped) old, ap (λ (s : State). s.births) old, ap (λ (s : State). length s.processes) old, c.reap.ensures.born)) c.self.invariant
