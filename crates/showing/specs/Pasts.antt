-- Kernels that have run the first of some events.
use Rattle.std.specs.Prelude.{◌≡◌, ◌+◌, ◌-◌, ◌≤◌, List, length, take, replicate}
use Rattle.posix.specs.declared.event.Event.{Event}
use Rattle.posix.specs.Common.{Line, World, Runs, RunsFrom}
use Rattle.kernel.specs.Views.{KernelView}

-- The state is the last one of a run of the world over the first events, as many as the kernel has run.
pub record IsReached (world : World) (events : List Event) (k : KernelView) : Type 0 where
  pub lines : List Line
  pub within : k.events ≤ length events
  pub runs : Runs world (take k.events events) lines k.state

-- Neither the state nor the number of events changed.
pub record IsSame (old new : KernelView) : Type 0 where
  pub state : new.state ≡ old.state
  pub events : new.events ≡ old.events

-- One event was run, as many times as the number of events has grown.
pub record AreGiven (event : Event) (old new : KernelView) : Type 0 where
  pub lines : List Line
  pub more : old.events ≤ new.events
  pub runs : RunsFrom (old.events + 1) old.state (replicate (new.events - old.events) event) lines new.state
