use Rattle.std.proofs.Common.{arith, ap, length}
use Rattle.schedules.proofs.SizeLemmas.{length_kinds_of}
use Rattle.merging.proofs.node.kinds_of.Goals as goal

pub push-requires : goal.push-requires
push-requires c =
    let l = c.loop-kind in
    (omega arith, omega (arith, ap length l.invariant, length_kinds_of l.kind, c.loop-kind-test.true, c.requires))
