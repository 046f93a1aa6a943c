use Rattle.std.proofs.Common.{◌≡◌, ◌+◌, drop}
use Rattle.posix.specs.Common.{stored}
use Rattle.umach.proofs.memory.UserMem.store.Given as goal

-- the bytes so far were put, and the rest is to be put
abbrev pub invariant-loop-place : goal.invariant-loop-place
invariant-loop-place l = stored (l.address + l.place) (drop l.place l.bytes) l.self ≡ stored l.address l.bytes l.fn.self
