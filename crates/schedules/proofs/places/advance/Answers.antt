use Rattle.std.proofs.Common.{◌≡◌, ◌+◌, ◌-◌, arith, length, ap, ◌∙◌, sym, Some}
use Rattle.schedules.proofs.AdvanceLemmas.{goes_on, same_from}
use Rattle.schedules.proofs.places.advance.Goals as goal

pub returns : goal.returns
returns c =
    let (within, early, none) = c.in-Some.ensures.some in
    let places = c.args.places.now in
    let at = c.in-Some.at in
    let sum : at + (length places - at) ≡ length places = omega (arith, within) in
    let are = same_from at (length places - at) _ places c.fill.new.self sum (c.fill.ensures.after (λ y same. same)) in
    (goes_on c.args.upto at (length places - at) places within sum early none ∙ ap Some (sym are), grind (arith, are))
