use Rattle.std.proofs.Common.{◌≡◌, ◌+◌, ◌++◌, drop, length, take}
use Rattle.text.specs.EventLists.{expanded}
use Rattle.schedules.specs.Families.{RisesFrom}
use Rattle.schedules.specs.Schedules.{from_front, scheduled}
use Rattle.counting.proofs.placing.scheduled.Given as goal

-- The events of the runs before this one, and the insertions before them, are in the list; the others follow.
abbrev pub invariant-loop-run : goal.invariant-loop-run
invariant-loop-run l = record {
  at : l.start ≡ length (expanded (take l.run-index l.run-items));
  rising : RisesFrom (length l.loose) l.start (length l.events) l.rest;
  len : length l.list + length l.rest ≡ l.start + length l.spots;
  list : l.list ++ from_front l.loose l.start (expanded (drop l.run-index l.run-items)) l.rest ≡ scheduled l.loose l.events l.spots;
}
