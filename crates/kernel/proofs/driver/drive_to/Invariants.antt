use Rattle.std.proofs.Common.{◌+◌, ◌-◌, ◌≤◌}
use Rattle.std.specs.Prelude.{replicate}
use Rattle.kernel.specs.Progress.{Shows}
use Rattle.kernel.proofs.driver.drive_to.Given as goal

abbrev pub invariant-loop-event : goal.invariant-loop-event
invariant-loop-event g l = record {
  shows : Shows (l.fn.kernel.events + 1) l.fn.kernel.state (replicate (l.kernel.events - l.fn.kernel.events) l.event) l.kernel.state (g.O.Observer.Hears l.fn.observer l.fn.to l.observer l.to);
  from : l.fn.kernel.events ≤ l.kernel.events;
  within : l.kernel.events ≤ l.last;
}

abbrev pub decreases-loop-event : goal.decreases-loop-event
decreases-loop-event g l = l.last - l.kernel.events
