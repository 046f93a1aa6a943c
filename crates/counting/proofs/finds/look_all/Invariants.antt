use Rattle.std.proofs.Common.{◌≡◌, ◌++◌, map, take, drop}
use Rattle.counting.specs.Texts.{looked_at}
use Rattle.counting.proofs.finds.look_all.Given as goal

abbrev pub invariant-loop-find : goal.invariant-loop-find
invariant-loop-find l = l.finds ≡ map (looked_at l.entry) (take l.find-index l.fn.finds) ++ drop l.find-index l.fn.finds
