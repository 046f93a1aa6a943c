use Rattle.std.proofs.Common.{◌≡◌, ◌-◌, ◌++◌, take}
use Rattle.std.specs.Prelude.{map, replicate}
use Rattle.posix.specs.Common.{low_byte}
use Rattle.umach.proofs.memory.low_bytes.Given as goal

-- the first of them are done, and zeros follow them
abbrev pub invariant-loop-place : goal.invariant-loop-place
invariant-loop-place l = l.bytes ≡ map low_byte (take l.place l.words) ++ replicate (16 - l.place) 0
