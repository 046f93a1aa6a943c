use Rattle.std.proofs.Common.{◌≡◌, take}
use Rattle.life.proofs.sameness.are_same.Given as goal

-- so far they are the same
abbrev pub invariant-loop-index : goal.invariant-loop-index
invariant-loop-index l = take l.index l.consoles ≡ take l.index l.others
