use Rattle.std.proofs.Common.{◌≡◌, take}
use Rattle.merging.specs.SpotLists.{spots_of}
use Rattle.merging.proofs.spot_list.SpotList.to_vec.Given as goal

-- The spots of the runs so far.
abbrev pub invariant-loop-run : goal.invariant-loop-run
invariant-loop-run l = l.spots.items ≡ spots_of (take l.run-index l.run-items)
