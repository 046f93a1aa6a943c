use Rattle.std.proofs.Common.{rules, ◌≡◌, ◌<◌, ◌∷◌, arith}
use Rattle.text.proofs.NameLemmas.{key_below}
use Rattle.text.proofs.names.+key_in.Goals as goal

pub overflow_mul-result : goal.overflow_mul-result
overflow_mul-result t c =
    let all : c.args.bytes.now ≡ c.in-Some.byte.now ∷ c.in-Some.rest.now = search rules in
    omega (arith, key_below _ _ _ _ all c.requires c.key_in.ensures.range)

pub overflow_add-result : goal.overflow_add-result
overflow_add-result t c =
    let all : c.args.bytes.now ≡ c.in-Some.byte.now ∷ c.in-Some.rest.now = search rules in
    let small : c.in-Some.byte.now < 256 = search rules in
    omega (arith, key_below _ _ _ _ all c.requires c.key_in.ensures.range, small, c.from.ensures)
