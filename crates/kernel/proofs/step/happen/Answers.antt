use Rattle.std.proofs.Common.{◌+◌, ◌*◌, ◌∙◌, None, length, sym, subst, arith}
use Rattle.std.specs.Option.{IfSome}
use Rattle.posix.specs.declared.event.Event.{Event}
use Rattle.kernel.specs.Counts.{ReadsAtMost, slots_of_event}
use Rattle.life.specs.Consoles.{foreground_members}
use Rattle.calls.proofs.CountLemmas.{rechecks_brief}
use Rattle.kernel.proofs.CountLemmas.{key_slots, step_reads, settling_rechecks}
use Rattle.kernel.proofs.step.happen.Goals as goal

pub returns-in-Step-clause-cost : goal.returns-in-Step-clause-cost
returns-in-Step-clause-cost g c = λ rest.
    let old = c.args.machine.now in
    let new = c.step.new.machine in
    subst (λ (e : Event). IfSome (slots_of_event e old.state) (λ n. ReadsAtMost n old new)) (sym c.in-Step.is) (step_reads old new _ rest c.step.ensures.cost (λ me e. c.step.ensures.brief me e rest.none rest.checked))

pub returns-in-Key-clause-cost : goal.returns-in-Key-clause-cost
returns-in-Key-clause-cost g c = λ rest.
    let old = c.args.machine.now in
    let new = c.key.new.self in
    subst (λ (e : Event). IfSome (slots_of_event e old.state) (λ n. ReadsAtMost n old new)) (sym c.in-Key.is)
    (let few = c.key.ensures.brief rest.none rest.settled.awake in
    settling_rechecks (3 * length (foreground_members c.in-Key.console old.state)) (2 * length new.to_recheck) old new (c.key.ensures.foregrounds_unchecked ∙ rest.checked) (rechecks_brief new.state.processes None new.to_recheck few.0)
    (omega (arith, c.key.ensures.costs.visits, key_slots c.in-Key.console c.in-Key.byte old, few.1)))

pub returns-in-Hangup-clause-cost : goal.returns-in-Hangup-clause-cost
returns-in-Hangup-clause-cost g c = λ rest.
    let old = c.args.machine.now in
    let new = c.hangup.new.self in
    subst (λ (e : Event). IfSome (slots_of_event e old.state) (λ n. ReadsAtMost n old new)) (sym c.in-Hangup.is)
    (let few = c.hangup.ensures.brief rest.none rest.settled.awake in
    settling_rechecks (4 + 2 * length (foreground_members c.in-Hangup.console old.state)) (2 * length new.to_recheck) old new (c.hangup.ensures.foregrounds_unchecked ∙ rest.checked) (rechecks_brief new.state.processes None new.to_recheck few.0)
    (omega (arith, c.hangup.ensures.costs.visits, few.1)))
