use Rattle.std.proofs.Common.{◌≡◌, ◌-◌, ◌∙◌, List, arith, drop, take}
use Rattle.std.proofs.lemmas.List.{length-drop, take_all}
use Rattle.std.proofs.lemmas.Result.{IfOk-weaker}
use Rattle.posix.specs.declared.event.Event.{Event}
use Rattle.counting.proofs.placing.events_from.Goals as goal

pub returns : goal.returns
returns c =
    let rest = drop c.args.place c.args.events.now in
    let n = c.len.result - c.args.place in
    IfOk-weaker c.events_between.result _ _ (λ (part : List Event) (is : part ≡ take n rest). is ∙ take_all n rest (omega (arith, c.len.ensures, length-drop c.args.place c.args.events.now))) c.events_between.ensures
