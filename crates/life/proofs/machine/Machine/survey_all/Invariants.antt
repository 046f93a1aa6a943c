use Rattle.std.proofs.Common.{◌≡◌, ◌+◌, ◌*◌, ◌≤◌, filter, length}
use Rattle.std.specs.Option.{IfSome, IsSome}
use Rattle.posix.specs.Common.{first_pid, left_of, lookup, targets}
use Rattle.posix.proofs.WalkLemmas.{numbers_left}
use Rattle.life.specs.Queues.{joined_surveys, survey_of}
use Rattle.life.specs.Machines.{AreSame}
use Rattle.life.specs.Rechecks.{is_candidate}
use Rattle.life.specs.Callers.{process_like}
use Rattle.life.proofs.machine.Machine.survey_all.Given as goal

-- those that were looked at, and those that are left, are all
abbrev pub invariant-loop-next : goal.invariant-loop-next
invariant-loop-next g l =
    let r = process_like l.me in let rs = l.fn.self.state.processes in
    record {
      same : AreSame l.fn.self l.self;
      there : IfSome l.next (λ p. IsSome (lookup p rs));
      begins : first_pid (left_of l.next (filter (is_candidate r l.target) rs)) ≡ l.next;
      read : l.self.visits + 3 * length (left_of l.next (filter (is_candidate r l.target) rs)) ≤ l.fn.self.visits + 1 + 3 * length (filter (is_candidate r l.target) rs);
      no_fewer : l.fn.self.visits ≤ l.self.visits;
      surveyed : joined_surveys l.survey (survey_of r l.sig (targets r l.target (left_of l.next rs))) ≡ survey_of r l.sig (targets r l.target rs);
    }

abbrev pub decreases-loop-next : goal.decreases-loop-next
decreases-loop-next g l = numbers_left 2147483648 l.next
