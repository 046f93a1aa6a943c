use Rattle.std.proofs.Common.{arith, ◌≡◌, ◌+◌, ◌%◌, ◌<◌, get_or, length}
use Rattle.std.proofs.lemmas.Grind.{common_steps}
use Rattle.std.proofs.lemmas.List.Elements.{All-set}
use Rattle.counting.specs.Numbers.{base}
use Rattle.counting.proofs.NumberLemmas.{limb_below, place_added}
use Rattle.counting.proofs.count.add_limbs.Goals as goal

pub loop-place-preserved : goal.loop-place-preserved
loop-place-preserved c =
    let l = c.loop-place in
    let ls = l.limbs.items in
    let limb = c.index.result.now in
    let sum = limb + c.limb_at.result + l.carry in
    let within : l.place < length ls = omega arith in
    let read : limb ≡ get_or ls l.place 0 = grind (arith, common_steps) in
    let small : sum % base < base = omega arith in
    let limb_small = limb_below ls l.place l.invariant.below in
    let other_small = limb_below c.args.others.now l.place c.requires.others.small in
    record {
      sum = rw read (place_added ls c.args.others.now l.place l.carry c.limb_at.result _ within c.limb_at.ensures l.invariant.sum);
      len = grind (arith, common_steps);
      below = All-set (λ x. x < base) ls l.place (sum % base) small l.invariant.below;
      rest = λ k after. grind (arith, common_steps, l.invariant.rest k);
      top = λ _. grind (arith, common_steps, l.invariant.rest l.place);
      carry = omega (arith, read, limb_small, other_small, c.limb_at.ensures);
    }
