use Rattle.std.proofs.Common.{◌≡◌}
use Rattle.schedules.specs.Families.{kinds_of}
use Rattle.merging.proofs.node.kinds_of.Given as goal

-- The kinds so far.
abbrev pub invariant-loop-kind : goal.invariant-loop-kind
invariant-loop-kind l = l.kinds.items ≡ kinds_of l.kind
