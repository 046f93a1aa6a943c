use Rattle.std.proofs.Common.{◌≡◌, ◌≤◌, length, vec_capacity}
use Rattle.signal.proofs.realtime_pool.GrantedPools.reserve.Given as goal

abbrev pub invariant-loop : goal.invariant-loop
invariant-loop l = (length l.self-inside.pools.items ≡ l.counter) × (l.waiting ≤ l.counter) × (l.count ≤ vec_capacity l.self-inside.pools)
