use Rattle.std.proofs.Common.{◌+◌, ◌*◌, ◌≡◌, ◌≤◌, length}
use Rattle.posix.specs.Common.{zombies_of}
use Rattle.life.proofs.NoticeWalkLemmas.{IsTelling, zombies_left}
use Rattle.life.proofs.machine.Machine.tell_heir.Given as goal

abbrev pub invariant-loop-next : goal.invariant-loop-next
invariant-loop-next g l =
    let first = l.fn.self.state in
    record {
      telling : IsTelling first l.self.state l.fn.pid l.fn.heir l.next;
      groups_at_risk : l.self.groups_at_risk ≡ l.fn.self.groups_at_risk;
      read : l.self.visits + 4 * zombies_left l.self.state.processes l.fn.pid l.next ≤ l.fn.self.visits + 4 * length (zombies_of l.fn.pid first.processes);
      no_fewer : l.fn.self.visits ≤ l.self.visits;
    }

abbrev pub decreases-loop-next : goal.decreases-loop-next
decreases-loop-next g l = zombies_left l.self.state.processes l.fn.pid l.next
