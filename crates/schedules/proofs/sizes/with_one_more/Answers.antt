use Rattle.std.proofs.Common.{◌≡◌, ◌+◌, ◌*◌, ◌/◌, arith}
use Rattle.schedules.specs.Families.{choose}
use Rattle.schedules.proofs.SizeLemmas.{next_is}
use Rattle.schedules.proofs.sizes.with_one_more.Goals as goal

pub returns-then-next-from : goal.returns-then-next-from
returns-then-next-from c =
    let is : c.from-2.result * (c.from.result + (c.args.chosen + 1)) / (c.args.chosen + 1) ≡ choose (c.args.of + (c.args.chosen + 1)) (c.args.chosen + 1) =
    rw (c.from.ensures, c.from-2.ensures) (next_is c.args.of c.args.chosen c.args.size c.requires.size) in
    λ within. omega (arith, is, c.from-3.ensures, within)

pub returns : goal.returns
returns c =
    let is : c.from-2.result * (c.from.result + (c.args.chosen + 1)) / (c.args.chosen + 1) ≡ choose (c.args.of + (c.args.chosen + 1)) (c.args.chosen + 1) =
    rw (c.from.ensures, c.from-2.ensures) (next_is c.args.of c.args.chosen c.args.size c.requires.size) in
    (omega (arith, is, c.from-3.ensures), omega (arith, is, c.from-3.ensures))
