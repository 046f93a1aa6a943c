use Rattle.std.proofs.Common.{◌≡◌, ◌≤◌, ◌-◌, length, take}
use Rattle.showing.proofs.comparing_sink.count_same.Given as goal

abbrev pub invariant-loop-count : goal.invariant-loop-count
invariant-loop-count l = record { of_one : l.count ≤ length l.one; of_other : l.count ≤ length l.other; same : take l.count l.one ≡ take l.count l.other }

abbrev pub decreases-loop-count : goal.decreases-loop-count
decreases-loop-count l = length l.one - l.count
