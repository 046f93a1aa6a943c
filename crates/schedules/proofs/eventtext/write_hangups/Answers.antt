use Rattle.std.proofs.Common.{◌≡◌, ◌++◌, List, ℕ, ap, ◌∙◌, replicate, subst, arith}
use Rattle.std.specs.Prelude.{codes}
use Rattle.std.specs.String.{string_bytes}
use Rattle.posix.specs.declared.event.Event.TheVariants.{Hangup}
use Rattle.schedules.specs.EventLines.{AddsLines}
use Rattle.schedules.proofs.AddLemmas.{adds_nothing, counted_line, hangups_more}
use Rattle.schedules.proofs.eventtext.write_hangups.Goals as goal

pub loop-i-init : goal.loop-i-init
loop-i-init c = adds_nothing (string_bytes c.args.text.now)

pub loop-i-preserved : goal.loop-i-preserved
loop-i-preserved c =
    let mid = string_bytes c.loop-i.text in
    hangups_more (string_bytes c.args.text.now) mid (string_bytes c.writeln.new.self) c.args.console c.loop-i._i (omega (arith, c.ranges.console.fits)) c.loop-i.invariant
    (c.in_ok-writeln.ensures.bytes ∙ ap (λ (l : List ℕ). mid ++ l) (counted_line (codes "hangup") c.args.console))

pub returns : goal.returns
returns c =
    let all : c.loop-i._i ≡ c.args.count = omega (arith, c.loop-i-test.false, c.loop-i.auto._i-end) in
    subst (λ n. AddsLines (string_bytes c.args.text.now) (replicate n (Hangup c.args.console)) (string_bytes c.loop-i.text)) all c.loop-i.invariant
