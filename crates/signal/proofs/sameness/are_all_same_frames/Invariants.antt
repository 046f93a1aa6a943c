use Rattle.std.proofs.Common.{◌≡◌, take}
use Rattle.signal.proofs.sameness.are_all_same_frames.Given as goal

-- the frames so far are the same
abbrev pub invariant-loop-place : goal.invariant-loop-place
invariant-loop-place l = take l.place l.mine ≡ take l.place l.others
