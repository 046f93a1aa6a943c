use Rattle.std.proofs.Common.{◌≡◌, ◌≤◌}
use Rattle.posix.proofs.WalkLemmas.{numbers_left}
use Rattle.life.specs.Machines.{with_processes}
use Rattle.life.proofs.AtRiskLemmas.{IsSignalling}
use Rattle.life.proofs.machine.Machine.hup_and_cont_all.Given as goal

abbrev pub invariant-loop-next : goal.invariant-loop-next
invariant-loop-next g l = record {
  others : l.self.state ≡ with_processes l.fn.self.state l.self.state.processes;
  no_fewer : l.fn.self.visits ≤ l.self.visits;
  signalling : IsSignalling l.fn.self.groups_at_risk l.self.groups_at_risk l.fn.self.state.processes l.self.state.processes l.next l.fn.self.visits l.self.visits;
}

abbrev pub decreases-loop-next : goal.decreases-loop-next
decreases-loop-next g l = numbers_left 2147483648 l.next
