use Rattle.std.proofs.Common.{◌≡◌, ℕ, ◌+◌, ◌-◌, ◌≤◌, ◌++◌, List, length}
use Rattle.std.specs.Prelude.{replicate}
use Rattle.posix.specs.declared.event.Event.{Event}
use Rattle.schedules.specs.Families.{RisesFrom}
use Rattle.schedules.specs.Schedules.{from_front}
use Rattle.counting.proofs.placing.push_run.Given as goal

-- The events before index done, and the insertions at the first spots, are in the list; the others follow.
abbrev pub invariant-loop-spot : goal.invariant-loop-spot
invariant-loop-spot l = record {
  rising : (high : ℕ) → RisesFrom (length l.loose) l.start high l.spots → RisesFrom (length l.loose) l.done high l.rest;
  from : l.start ≤ l.done;
  within : l.done ≤ l.start + l.run.count;
  len : length l.list + (l.start + l.run.count) + length l.rest ≡ length l.fn.list + l.run.count + length l.spots + l.done;
  list : (behind : List Event) → l.list ++ from_front l.loose l.done (replicate (l.start + l.run.count - l.done) l.run.event ++ behind) l.rest
      ≡ l.fn.list ++ from_front l.loose l.start (replicate l.run.count l.run.event ++ behind) l.spots;
}

abbrev pub decreases-loop-spot : goal.decreases-loop-spot
decreases-loop-spot l = length l.rest
