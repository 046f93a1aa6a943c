use Rattle.std.proofs.Common.{◌≡◌, ◌+◌, ◌*◌}
use Rattle.schedules.specs.Families.{choose, ways}
use Rattle.schedules.proofs.sizes.family_size.Given as goal

abbrev pub invariant-loop-before : goal.invariant-loop-before
invariant-loop-before l = l.size ≡ ways l.upto l.before * choose (l.upto + l.loose + l.ticks) l.ticks
