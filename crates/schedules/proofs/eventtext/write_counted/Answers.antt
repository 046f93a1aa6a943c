use Rattle.std.proofs.Common.{◌≡◌, ◌-◌, ◌≤◌, ◌++◌, ap, ◌∙◌, subst, arith, replicate, List, ℕ}
use Rattle.std.specs.String.{string_bytes}
use Rattle.schedules.specs.EventLines.{AddsLines}
use Rattle.schedules.proofs.AddLemmas.{adds_nothing, counted_line, counted_more}
use Rattle.schedules.proofs.eventtext.write_counted.Goals as goal

pub loop-left-init : goal.loop-left-init
loop-left-init c =
    let text = string_bytes c.args.text.now in
    let none : 0 ≡ c.args.count - c.args.count = omega arith in
    record { within = omega arith; adds = λ event is. subst (λ n. AddsLines text (replicate n event) text) none (adds_nothing text) }

pub loop-left-preserved : goal.loop-left-preserved
loop-left-preserved c =
    let mid = string_bytes c.loop-left.text in
    let here = c.min-here.result in
    let least : 1 ≤ here = omega (arith, c.min-here.ensures, c.loop-left-test.true) in
    let most : here ≤ 1000000 = omega (arith, c.min-here.ensures) in
    let some : here ≤ c.loop-left.left = omega (arith, c.min-here.ensures) in
    let within = c.loop-left.invariant.within in
    record {
      within = omega (arith, within);
      adds = λ event is.
          counted_more (string_bytes c.args.text.now) mid (string_bytes c.writeln.new.self) c.args.word.now event c.args.count c.loop-left.left here is within some least most
          (c.loop-left.invariant.adds event is) (c.in_ok-writeln.ensures.bytes ∙ ap (λ (l : List ℕ). mid ++ l) (counted_line c.args.word.now here));
    }

pub returns : goal.returns
returns c = λ event is.
    let all : c.args.count - c.loop-left.left ≡ c.args.count = omega (arith, c.loop-left-test.false) in
    subst (λ n. AddsLines (string_bytes c.args.text.now) (replicate n event) (string_bytes c.loop-left.text)) all (c.loop-left.invariant.adds event is)
