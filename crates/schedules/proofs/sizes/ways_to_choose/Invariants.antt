use Rattle.std.proofs.Common.{◌≡◌, ◌+◌, ◌≤◌}
use Rattle.schedules.specs.Families.{choose}
use Rattle.schedules.proofs.sizes.ways_to_choose.Given as goal

abbrev pub invariant-loop-k : goal.invariant-loop-k
invariant-loop-k l = (l.size ≡ choose (l.of + l.k) l.k) × (l.size ≤ l.limit)
