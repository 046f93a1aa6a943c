use Rattle.std.proofs.Common.{◌∙◌, ap, arith}
use Rattle.life.specs.Machines.{MachineView}
use Rattle.calls.proofs.BriefLemmas.{brief_alone}
use Rattle.kernel.proofs.BlockLemmas.{wait_rests, wait_unread}
use Rattle.kernel.proofs.step.wait_on.Goals as goal

pub sleep-requires-clause-rests : goal.sleep-requires-clause-rests
sleep-requires-clause-rests g c = λ r e. wait_rests c.args.machine.now.state r (c.requires.none_chosen r e) (c.requires.waits r e c.if-waits.true)

pub sleep-requires-clause-unread : goal.sleep-requires-clause-unread
sleep-requires-clause-unread g c = λ r e. wait_unread r.blocked (c.requires.blocked r e c.if-waits.true)

pub returns-then-waits-clause-brief : goal.returns-then-waits-clause-brief
returns-then-waits-clause-brief g c = λ same quiet.
    let slept = c.sleep.ensures.is in
    brief_alone 0 c.args.machine.now _ (ap (λ (m : MachineView). m.to_recheck) slept ∙ quiet.none) (ap (λ (m : MachineView). m.foregrounds_unchecked) slept ∙ quiet.checked)
    (ap (λ (m : MachineView). m.state.consoles) slept) (let read = ap (λ (m : MachineView). m.visits) slept in omega (arith, read))
