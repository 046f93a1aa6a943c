use Rattle.std.proofs.Common.{arith, ◌≡◌, ◌∙◌, ap, sym, subst, false, Some}
use Rattle.posix.specs.Common.{Process, can_act, State, lose_place, process, is_in_read}
use Rattle.life.specs.Machines.{MachineView}
use Rattle.life.proofs.ViewLemmas.{state_is}
use Rattle.calls.proofs.BriefLemmas.{brief_alone}
use Rattle.kernel.proofs.BlockLemmas.{blocked_rests, blocked_unread}
use Rattle.kernel.proofs.step.block.Goals as goal

pub sleep-requires-clause-rests : goal.sleep-requires-clause-rests
sleep-requires-clause-rests g c =
    let it = c.requires.acting.placed in
    subst (λ (t : State). (r : Process) → process t c.args.pid ≡ Some r → can_act t r ≡ false) (sym c.enter_call.ensures.state)
    (blocked_rests c.args.machine.now.state c.args.pid it.what c.in-Some.field-0 c.args.blocked it.found (c.requires.none_chosen it.what it.found) (c.requires.waits it.what it.found c.in-Some.field-0 (sym c.named_by.ensures ∙ c.in-Some.is)))

pub sleep-requires-clause-unread : goal.sleep-requires-clause-unread
sleep-requires-clause-unread g c =
    let it = c.requires.acting.placed in
    subst (λ (t : State). (r : Process) → process t c.args.pid ≡ Some r → is_in_read r.blocked ≡ false) (sym c.enter_call.ensures.state)
    (blocked_unread c.args.machine.now.state c.args.pid it.what c.in-Some.field-0 c.args.blocked it.found (c.requires.waits it.what it.found c.in-Some.field-0 (sym c.named_by.ensures ∙ c.in-Some.is)))

pub returns-in-Some-clause-state : goal.returns-in-Some-clause-state
returns-in-Some-clause-state g c = state_is c.sleep.ensures.is ∙ ap (λ (t : State). lose_place t c.args.pid) c.enter_call.ensures.state

pub returns-in-None-clause-state : goal.returns-in-None-clause-state
returns-in-None-clause-state g c = state_is c.lose_place.ensures.is ∙ ap (λ (t : State). lose_place t c.args.pid) c.enter_call.ensures.state

pub returns-in-Some-clause-brief : goal.returns-in-Some-clause-brief
returns-in-Some-clause-brief g c = λ same quiet.
    let slept = c.sleep.ensures.is in
    let none = ap (λ (m : MachineView). m.to_recheck) slept ∙ c.enter_call.ensures.to_recheck quiet.place ∙ quiet.none in
    brief_alone 1 c.args.machine.now _ none (ap (λ (m : MachineView). m.foregrounds_unchecked) slept ∙ c.enter_call.ensures.foregrounds_unchecked ∙ quiet.checked)
    (ap (λ (m : MachineView). m.state.consoles) slept ∙ ap (λ (t : State). t.consoles) c.enter_call.ensures.state) (let read = ap (λ (m : MachineView). m.visits) slept in let one = c.enter_call.ensures.visits in omega (arith, read, one))
