use Rattle.std.proofs.Common.{◌≡◌, ◌≤◌, length, take}
use Rattle.text.specs.EventLists.{expanded}
use Rattle.counting.proofs.placing.event_at.Given as goal

-- The events of the runs so far are before the place.
abbrev pub invariant-loop-run : goal.invariant-loop-run
invariant-loop-run l = record {
  at : l.before ≡ length (expanded (take l.run-index l.run-items));
  from : l.before ≤ l.place;
}
