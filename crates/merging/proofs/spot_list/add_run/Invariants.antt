use Rattle.std.proofs.Common.{◌≡◌, ◌++◌, replicate}
use Rattle.merging.proofs.spot_list.add_run.Given as goal

-- The spots so far.
abbrev pub invariant-loop-time : goal.invariant-loop-time
invariant-loop-time l = l.spots.items ≡ l.fn.spots.items ++ replicate l._time l.run.spot
