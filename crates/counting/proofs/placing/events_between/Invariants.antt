use Rattle.std.proofs.Common.{◌≡◌, ◌-◌, length, take, drop}
use Rattle.text.specs.EventLists.{expanded}
use Rattle.counting.proofs.placing.events_between.Given as goal

-- The events of the runs so far.
abbrev pub invariant-loop-run : goal.invariant-loop-run
invariant-loop-run l = record {
  at : l.before ≡ length (expanded (take l.run-index l.run-items));
  part : l.part ≡ take (l.to - l.from) (drop l.from (expanded (take l.run-index l.run-items)));
}
