use Rattle.std.proofs.Common.{arith}
use Rattle.schedules.proofs.SizeLemmas.{all_loose, choices_are_over, loose_more, no_loose, none_fits, product_is_over}
use Rattle.schedules.proofs.sizes.family_size.Goals as goal

pub returns-then-loose-gt0 : goal.returns-then-loose-gt0
returns-then-loose-gt0 c =
    let none = none_fits c.args.upto c.args.ticks c.args.loose (omega arith) (omega arith) in
    (omega (arith, none), none)

pub returns-in_err-size : goal.returns-in_err-size
returns-in_err-size c = rw c.from_residual.ensures (choices_are_over c.args.upto c.args.ticks c.args.loose c.args.limit (λ none. omega (arith, none)) c.in_err-size.ensures)

pub loop-before-init : goal.loop-before-init
loop-before-init c = no_loose c.args.upto c.args.loose c.args.ticks c.in_ok-size.size c.in_ok-size.ensures.1

pub returns-in_err-size-2 : goal.returns-in_err-size-2
returns-in_err-size-2 c =
    let l = c.loop-before in
    rw c.from_residual-in_err-size-2.ensures (product_is_over c.args.upto c.args.ticks c.args.loose l.before l.size c.args.limit (λ none. omega (arith, none)) c.loop-before-test.true l.invariant
    (omega arith) c.in_err-size-2.ensures)

pub loop-before-preserved : goal.loop-before-preserved
loop-before-preserved c =
    let l = c.loop-before in
    rw c.in_ok-size-2.ensures.1 (loose_more c.args.upto c.args.loose c.args.ticks l.before l.size l.invariant)

pub returns-then-size-limit : goal.returns-then-size-limit
returns-then-size-limit c =
    let l = c.loop-before in
    let all = all_loose c.args.upto c.args.ticks c.args.loose l.before l.size (omega arith) l.invariant in
    λ within. omega (arith, all, within)

pub returns-else-size-limit : goal.returns-else-size-limit
returns-else-size-limit c =
    let l = c.loop-before in
    let all = all_loose c.args.upto c.args.ticks c.args.loose l.before l.size (omega arith) l.invariant in
    (omega (arith, all), all)
