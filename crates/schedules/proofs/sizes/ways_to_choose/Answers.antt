use Rattle.std.proofs.Common.{arith, ◌+◌}
use Rattle.schedules.proofs.SizeLemmas.{one_at_least, no_choice, grows}
use Rattle.schedules.proofs.sizes.ways_to_choose.Goals as goal

pub returns-then-limit-eq0 : goal.returns-then-limit-eq0
returns-then-limit-eq0 c = let one = one_at_least c.args.of c.args.chosen in λ within. omega (arith, one, within)

pub loop-k-init : goal.loop-k-init
loop-k-init c = (no_choice c.args.of, omega arith)

pub returns-in_err-size : goal.returns-in_err-size
returns-in_err-size c =
    let more = grows c.args.of (c.loop-k.k + 1) c.args.chosen (omega arith) in
    let over = c.in_err-size.ensures in
    rw c.from_residual.ensures (λ within. over (omega (arith, more, within)))
