use Rattle.std.proofs.Common.{◌≡◌, ◌+◌, ◌*◌, ◌≤◌, length}
use Rattle.std.specs.Prelude.{count_by}
use Rattle.std.specs.Option.{IfSome, IsSome}
use Rattle.posix.specs.Common.{is_living, is_zombie, left_of, lookup}
use Rattle.posix.proofs.WalkLemmas.{numbers_left}
use Rattle.life.specs.Machines.{AreSame}
use Rattle.life.proofs.machine.Machine.census.Given as goal

-- those that were counted, and those that are left, are all
abbrev pub invariant-loop-next : goal.invariant-loop-next
invariant-loop-next g l =
    let rs = l.fn.self.state.processes in
    record {
      same : AreSame l.fn.self l.self;
      read : l.self.visits + 2 * length (left_of l.next rs) ≤ l.fn.self.visits + 1 + 2 * length rs;
      no_fewer : l.fn.self.visits ≤ l.self.visits;
      there : IfSome l.next (λ p. IsSome (lookup p rs));
      living : l.living + count_by is_living (left_of l.next rs) ≡ count_by is_living rs;
      zombies : l.zombies + count_by (λ r. is_zombie r.life) (left_of l.next rs) ≡ count_by (λ r. is_zombie r.life) rs;
    }

abbrev pub decreases-loop-next : goal.decreases-loop-next
decreases-loop-next g l = numbers_left 2147483648 l.next
