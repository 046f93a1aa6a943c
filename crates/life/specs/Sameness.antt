-- What two states have in common that is compared at once.
use Rattle.std.specs.Prelude.{◌≡◌}
use Rattle.posix.specs.Common.{State}

-- everything but the time, the processes, the consoles and the world is the same
pub record HaveSameCounts (s t : State) : Type 0 where
  pub last_pid : s.last_pid ≡ t.last_pid
  pub births : s.births ≡ t.births
  pub order : s.order ≡ t.order
  pub dropped : s.dropped ≡ t.dropped
  pub halted : s.halted ≡ t.halted
