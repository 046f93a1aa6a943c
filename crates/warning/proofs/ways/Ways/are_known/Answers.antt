use Rattle.std.proofs.Common.{refl, arith, ◌<◌, ℕ, length}
use Rattle.warning.proofs.WayLemmas.{known_more, known_all}
use Rattle.warning.proofs.ways.Ways.are_known.Goals as goal

pub loop-place-preserved : goal.loop-place-preserved
loop-place-preserved c = known_more c.args.program.now.instructions c.args.self.now.ways.items c.loop-place.place c.loop-place.invariant (c.if-not-is_known.ensures refl)

pub returns : goal.returns
returns c = λ yes.
    known_all c.args.program.now.instructions c.args.self.now.ways.items
    (λ (p : ℕ) (within : p < length c.args.program.now.instructions). let below : p < c.loop-place.place = omega (arith, within, c.len-place-end.ensures.value, c.loop-place-test.false) in c.loop-place.invariant p below)
