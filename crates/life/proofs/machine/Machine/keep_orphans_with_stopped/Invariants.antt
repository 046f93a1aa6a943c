use Rattle.std.proofs.Common.{◌≡◌, ◌&&◌}
use Rattle.posix.specs.Common.{is_orphaned, has_stopped}
use Rattle.posix.proofs.WalkLemmas.{numbers_left}
use Rattle.pidset.proofs.WalkLemmas.{IsKeeping}
use Rattle.life.proofs.machine.Machine.keep_orphans_with_stopped.Given as goal

abbrev pub invariant-loop-next : goal.invariant-loop-next
invariant-loop-next g l =
    let rs = l.fn.self.state.processes in
    record {
      same : l.self.state ≡ l.fn.self.state;
      read : l.self.visits ≡ l.fn.self.visits;
      keeping : IsKeeping (λ n. is_orphaned n rs && has_stopped n rs) l.fn.self.groups_at_risk l.self.groups_at_risk l.next;
    }

abbrev pub decreases-loop-next : goal.decreases-loop-next
decreases-loop-next g l = numbers_left 2147483648 l.next
