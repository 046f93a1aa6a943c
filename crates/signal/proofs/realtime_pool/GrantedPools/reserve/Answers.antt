use Rattle.std.proofs.Common.{◌∙◌, ap, arith, length}
use Rattle.std.proofs.lemmas.List.{length_push}
use Rattle.signal.proofs.realtime_pool.GrantedPools.reserve.Goals as goal

pub loop-preserved : goal.loop-preserved
loop-preserved c =
    let more = ap length c.push_reserved.ensures.items ∙ length_push _ _ in
    (omega (arith, more, c.loop.invariant.0), omega (arith, c.loop.invariant.1), omega (arith, c.push_reserved.ensures.capacity, c.loop.invariant.2))
