use Rattle.std.proofs.Common.{◌≡◌, ◌≤◌, length, drop, None}
use Rattle.schedules.specs.Walks.{next_of_ticks}
use Rattle.schedules.proofs.places.last_to_go.Given as goal

abbrev pub invariant-loop-behind : goal.invariant-loop-behind
invariant-loop-behind l = (l.behind ≤ length l.places) × (next_of_ticks l.upto (drop l.behind l.places) ≡ None)

abbrev pub decreases-loop-behind : goal.decreases-loop-behind
decreases-loop-behind l = l.behind
