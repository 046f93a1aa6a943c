use Rattle.std.proofs.Common.{◌≡◌, ◌+◌, ◌≤◌}
use Rattle.posix.specs.Common.{forebears, heir_in}
use Rattle.life.specs.Ends.{slots_of_walk, slots_of_heir}
use Rattle.life.specs.Machines.{AreSame}
use Rattle.life.proofs.HeirLemmas.{walk_from}
use Rattle.life.proofs.machine.Machine.heir.Given as goal

-- the walk goes on to the new parent, which is process 1 if it reaches that
abbrev pub invariant-loop-left : goal.invariant-loop-left
invariant-loop-left g l =
    let rs = l.fn.self.state.processes in
    record {
      same : AreSame l.fn.self l.self;
      walk : walk_from rs l.pid l.left l.forebear ≡ heir_in rs l.pid;
      first : l.forebear ≡ 1 → walk_from rs l.pid l.left 1 ≡ 1;
      read : l.self.visits + slots_of_walk (forebears rs) l.pid l.left l.forebear ≤ l.fn.self.visits + slots_of_heir rs l.pid;
      no_fewer : l.fn.self.visits ≤ l.self.visits;
    }

abbrev pub decreases-loop-left : goal.decreases-loop-left
decreases-loop-left g l = l.left
