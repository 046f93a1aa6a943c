use Rattle.std.proofs.Common.{◌≤◌, arith, length, sym, subst}
use Rattle.life.specs.Machines.{MachineView}
use Rattle.pidset.specs.Numbers.{Rises}
use Rattle.pidset.proofs.NumberLemmas.{rises_with}
use Rattle.life.proofs.AtRiskLemmas.{noted_again}
use Rattle.life.proofs.machine.Machine.note_anchor.Goals as goal

pub insert-requires : goal.insert-requires
insert-requires g c =
    let few = subst (λ (m : MachineView). length m.groups_at_risk ≤ length m.state.processes) (sym c.self.view_is) c.requires in
    record { room = λ out. omega (arith, few, c.self.invariant.listed.room, c.self.invariant.noted.room) }

pub invariant_of-self : goal.invariant_of-self
invariant_of-self g c = noted_again c.self.invariant (subst Rises (sym c.insert.ensures.pids) (rises_with c.in-Some.group _ c.self.invariant.noted.rising)) c.insert.ensures.room
