use Rattle.std.proofs.Common.{◌≡◌, ◌<◌, ◌⊎◌}
use Rattle.pidset.specs.Lists.{Stands, behind_of}
use Rattle.pidset.proofs.lists.place_for.Given as goal

-- `at` is in the list or before it, and the process after it is above the new one
abbrev pub invariant-loop-list : goal.invariant-loop-list
invariant-loop-list l = record {
  stands : Stands l.nodes l.fn.list l.at;
  high : (behind_of l.nodes l.fn.list l.at ≡ 0) ⊎ (l.pid < behind_of l.nodes l.fn.list l.at);
}

abbrev pub decreases-loop-list : goal.decreases-loop-list
decreases-loop-list l = l.at
