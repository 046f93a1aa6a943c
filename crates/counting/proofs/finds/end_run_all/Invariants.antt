use Rattle.std.proofs.Common.{◌≡◌, ◌++◌, map, take, drop}
use Rattle.counting.specs.Texts.{after_run}
use Rattle.counting.proofs.finds.end_run_all.Given as goal

abbrev pub invariant-loop-find : goal.invariant-loop-find
invariant-loop-find l = l.finds ≡ map (after_run l.spots) (take l.find-index l.fn.finds) ++ drop l.find-index l.fn.finds
