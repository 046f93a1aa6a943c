-- The value of a kernel.
use Rattle.std.specs.Prelude.{ℕ, ◌+◌, ◌≤◌}
use Rattle.posix.specs.Common.{State}

-- the state of the machine, the number of events applied, and how many slots of its table were read
pub record KernelView : Type 0 where
  pub state : State
  pub events : ℕ
  pub visits : ℕ

-- one more slot was read
abbrev pub looked : (ℕ → ℕ) → KernelView → KernelView
looked more k = record k { visits = more k.visits }

-- there is at most one birth more than events, and there are at most as many ticks as events
abbrev pub IsWithinEvents : KernelView → Type 0
IsWithinEvents k = (k.state.births ≤ k.events + 1) × (k.state.ticks ≤ k.events)
