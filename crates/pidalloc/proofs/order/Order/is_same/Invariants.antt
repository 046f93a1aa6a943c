use Rattle.std.proofs.Common.{◌≡◌, slice_get, take}
use Rattle.pidalloc.proofs.order.Order.is_same.Given as goal

-- so far they are the same, and the next processes are the next of each
abbrev pub invariant-loop-index : goal.invariant-loop-index
invariant-loop-index l = record {
  here : l.here ≡ slice_get l.self.pids l.index;
  there : l.there ≡ slice_get l.other.pids l.index;
  same : take l.index l.self.pids ≡ take l.index l.other.pids;
}
