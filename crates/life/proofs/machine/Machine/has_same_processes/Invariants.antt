use Rattle.std.proofs.Common.{◌≡◌, ◌+◌, ◌*◌, ◌≤◌, length}
use Rattle.posix.specs.Common.{first_pid, left_of}
use Rattle.posix.proofs.WalkLemmas.{numbers_left}
use Rattle.times.specs.Times.{all_later}
use Rattle.life.specs.Machines.{AreSame}
use Rattle.life.proofs.machine.Machine.has_same_processes.Given as goal

-- the processes are moved in time if those that are left are
abbrev pub invariant-loop-next : goal.invariant-loop-next
invariant-loop-next g l =
    let rs = l.fn.self.state.processes in
    let qs = l.fn.other.state.processes in
    record {
      mine : AreSame l.fn.self l.self;
      others : AreSame l.fn.other l.other;
      begins : first_pid (left_of l.next rs) ≡ l.next;
      others_begin : first_pid (left_of l.their_next qs) ≡ l.their_next;
      read : l.self.visits + 2 * length (left_of l.next rs) ≤ l.fn.self.visits + 1 + 2 * length rs;
      others_read : l.other.visits + 2 * length (left_of l.their_next qs) ≤ l.fn.other.visits + 1 + 2 * length qs;
      no_fewer : l.fn.self.visits ≤ l.self.visits;
      others_no_fewer : l.fn.other.visits ≤ l.other.visits;
      same : left_of l.their_next qs ≡ all_later l.delay (left_of l.next rs) → qs ≡ all_later l.delay rs;
    }

abbrev pub decreases-loop-next : goal.decreases-loop-next
decreases-loop-next g l = numbers_left 2147483648 l.next
