use Rattle.std.proofs.Common.{rules, ◌&&◌, ap, ◌∙◌, arith, cond, slice_get, ℕ}
use Rattle.posix.specs.Common.{State, without, is_orphaned, has_stopped}
use Rattle.pidset.specs.Numbers.{numbers_above}
use Rattle.life.specs.Machines.{MachineView}
use Rattle.pidset.proofs.WalkLemmas.{keeping_goes_on, keeping_ends, lies_above}
use Rattle.life.proofs.machine.Machine.keep_orphans_with_stopped.Goals as goal
use Rattle.jobs.proofs.ReadLemmas.{fewer_after}

pub loop-next-smaller : goal.loop-next-smaller
loop-next-smaller g c = fewer_after c.in-Some.group (omega arith) _ _ c.in-Some.is (lies_above c.in-Some.group _ c.next_above-next.result c.next_above-next.ensures.rising c.next_above-next.ensures.is)

pub loop-next-preserved : goal.loop-next-preserved
loop-next-preserved g c =
    let rs = c.args.self.now.state.processes in
    let t = λ (n : ℕ). is_orphaned n rs && has_stopped n rs in
    let n = c.in-Some.group in
    let groups_at_risk = ap (λ (m : MachineView). m.groups_at_risk) c.self-in-Some.view_is in
    let keeping = keeping_goes_on t c.args.self.now.groups_at_risk c.loop-next.self.groups_at_risk c.keep_orphan_with_stopped.new.self.groups_at_risk c.loop-next.next c.next_above-next.result n c.loop-next.invariant.keeping c.in-Some.is
    (c.keep_orphan_with_stopped.ensures.groups_at_risk ∙ ap (λ (s : State). cond (is_orphaned n s.processes && has_stopped n s.processes) c.loop-next.self.groups_at_risk (without n c.loop-next.self.groups_at_risk)) c.loop-next.invariant.same)
    (c.next_above-next.ensures.is ∙ ap (λ ns. slice_get (numbers_above n ns) 0) groups_at_risk) in
    search rules

pub returns-clause-groups_at_risk : goal.returns-clause-groups_at_risk
returns-clause-groups_at_risk g c =
    let rs = c.args.self.now.state.processes in
    keeping_ends (λ n. is_orphaned n rs && has_stopped n rs) c.args.self.now.groups_at_risk c.loop-next.self.groups_at_risk c.loop-next.next c.loop-next.invariant.keeping c.in_default.is
