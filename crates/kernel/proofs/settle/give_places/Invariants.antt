use Rattle.std.proofs.Common.{◌≡◌, ◌+◌, ◌≤◌, ℕ, length, Option, None}
use Rattle.posix.specs.Common.{give_places}
use Rattle.life.specs.Machines.{MachineView}
use Rattle.calls.specs.Counts.{slots_of_rechecks}
use Rattle.kernel.proofs.settle.give_places.Given as goal

-- the same processes are left to enter the run queue
pub record IsGiving (old now : MachineView) (last : Option ℕ) : Type 0 where
  pub places : give_places now.state ≡ give_places old.state
  pub foregrounds_unchecked : now.foregrounds_unchecked ≡ old.foregrounds_unchecked
  pub processes : now.state.processes ≡ old.state.processes
  pub visits : now.visits + slots_of_rechecks now.state.processes last now.to_recheck ≤ old.visits + slots_of_rechecks old.state.processes None old.to_recheck
  pub no_fewer : old.visits ≤ now.visits

abbrev pub invariant-loop-pid : goal.invariant-loop-pid
invariant-loop-pid g l = IsGiving l.fn.machine l.machine l.last

abbrev pub decreases-loop-pid : goal.decreases-loop-pid
decreases-loop-pid g l = length l.machine.to_recheck
