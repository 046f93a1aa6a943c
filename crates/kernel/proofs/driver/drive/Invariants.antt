use Rattle.std.proofs.Common.{◌≡◌, ◌+◌, length, take}
use Rattle.text.specs.EventLists.{expanded}
use Rattle.kernel.specs.Progress.{Shows}
use Rattle.kernel.proofs.driver.drive.Given as goal

abbrev pub invariant-loop-run : goal.invariant-loop-run
invariant-loop-run g l = record {
  shows : Shows (l.fn.kernel.events + 1) l.fn.kernel.state (expanded (take l.run-index l.run-items)) l.kernel.state (g.O.Observer.Hears l.fn.observer l.fn.to l.observer l.to);
  events : l.kernel.events ≡ l.fn.kernel.events + length (expanded (take l.run-index l.run-items));
}
