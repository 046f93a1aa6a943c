use Rattle.std.proofs.Common.{rules, ap, sym, ◌∙◌, arith, subst, slice_get}
use Rattle.posix.specs.Common.{State, hup_and_cont_all}
use Rattle.pidset.specs.Numbers.{numbers_above}
use Rattle.life.specs.Machines.{MachineView, with_processes}
use Rattle.life.proofs.AtRiskLemmas.{IsSignalling, signalling_goes_on}
use Rattle.pidset.proofs.WalkLemmas.{none_left, lies_above}
use Rattle.life.proofs.machine.Machine.hup_and_cont_all.Goals as goal
use Rattle.jobs.proofs.ReadLemmas.{fewer_after}

pub loop-next-smaller : goal.loop-next-smaller
loop-next-smaller g c = fewer_after c.in-Some.group (omega arith) _ _ c.in-Some.is (lies_above c.in-Some.group _ c.next_above-next.result c.next_above-next.ensures.rising c.next_above-next.ensures.is)

pub loop-next-preserved : goal.loop-next-preserved
loop-next-preserved g c =
    let both = ap (λ (s : State). s.processes) c.hup_and_cont.ensures.state in
    let kept = c.hup_and_cont.ensures.groups_at_risk in
    let groups_at_risk = ap (λ (m : MachineView). m.groups_at_risk) c.self-in-Some.view_is in
    let signalling = subst (λ ns. IsSignalling c.args.self.now.groups_at_risk ns c.args.self.now.state.processes c.hup_and_cont.new.self.state.processes c.next_above-next.result c.args.self.now.visits c.hup_and_cont.new.self.visits) (sym kept)
    (signalling_goes_on c.loop-next.invariant.signalling c.in-Some.is both c.hup_and_cont.ensures.visits (c.next_above-next.ensures.is ∙ ap (λ ns. slice_get (numbers_above c.in-Some.group ns) 0) (groups_at_risk ∙ kept))) in
    search rules

pub returns-clause-state : goal.returns-clause-state
unfolding hup_and_cont_all
returns-clause-state g c =
    let k = c.loop-next.invariant.signalling in
    c.loop-next.invariant.others ∙ ap (with_processes c.args.self.now.state) (sym (ap (λ left. hup_and_cont_all left c.loop-next.self.state.processes) (none_left k.left (sym k.walk.comes ∙ c.in_default.is))) ∙ k.todo)

pub returns-clause-visits : goal.returns-clause-visits
returns-clause-visits g c = omega (arith, c.loop-next.invariant.signalling.read)
