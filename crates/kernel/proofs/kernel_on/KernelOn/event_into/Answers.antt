use Rattle.std.proofs.Common.{◌≡◌, ◌<◌, true, ap, sym, subst, ◌∙◌}
use Rattle.posix.specs.Common.{Outcome, is_free}
use Rattle.posix.proofs.WakeLemmas.{settled_stays}
use Rattle.posix.proofs.CountLemmas.{next_halted}
use Rattle.kernel.specs.Counts.{CountsOne}
use Rattle.kernel.specs.Views.{KernelView}
use Rattle.kernel.proofs.EventLemmas.{counts_on}
use Rattle.laws.proofs.AgreeRuns.{step_agrees, step_orderly}
use Rattle.laws.proofs.FormStays.{step_formed}
use Rattle.laws.proofs.RefusalLemmas.{birth_free}
use Rattle.kernel.proofs.kernel_on.KernelOn.event_into.Goals as goal

pub invariant_of-self : goal.invariant_of-self
invariant_of-self g c =
    let old = c.self.invariant in
    let counts = counts_on c.self.inside.machine.state c.next.new.machine.state c.args.event _ c.self.inside.events c.next.ensures.step old.0 old.1 in (
      counts.0,
      counts.1,
      settled_stays c.self.inside.machine.state c.next.new.machine.state c.args.event _ c.next.ensures.step old.2,
      c.next.ensures.regular,
      c.next.ensures.to_recheck old.4,
      c.next.ensures.foregrounds_unchecked old.5,
      step_orderly c.self.inside.machine.state c.next.new.machine.state c.args.event _ c.next.ensures.step c.range_holds.ensures old.3 old.6,
    )

pub returns-clause-halted : goal.returns-clause-halted
returns-clause-halted g c = λ e.
    let halted = ap (λ (k : KernelView). k.state.halted) c.self.view_is ∙ e in
    let o = sym c.next.ensures.step.comes ∙ next_halted c.next.ensures.step.granted c.self.inside.machine.state c.args.event halted in
    (ap (λ (o : Outcome). o.entries) o, ap (λ (o : Outcome). o.state) o ∙ ap (λ (k : KernelView). k.state) c.self.view_is)

pub returns-clause-within_events : goal.returns-clause-within_events
returns-clause-within_events g c = counts_on c.self.inside.machine.state c.next.new.machine.state c.args.event _ c.self.inside.events c.next.ensures.step c.self.invariant.0 c.self.invariant.1

pub returns-clause-settled : goal.returns-clause-settled
returns-clause-settled g c = settled_stays c.self.inside.machine.state c.next.new.machine.state c.args.event _ c.next.ensures.step c.self.invariant.2

pub returns-clause-tells : goal.returns-clause-tells
returns-clause-tells g c =
    let old = c.self.invariant in
    let s = c.self.inside.machine.state in
    let t = c.next.new.machine.state in
    let step = c.next.ensures.step in
    rw (← c.self.view_is) (record {
      orderly = step_orderly s t c.args.event _ step c.range_holds.ensures old.3 old.6;
      forms = step_formed s t c.args.event _ step old.3 old.6.kinds c.range_holds.ensures c.self.inside.events (subst (λ (k : KernelView). k.events < 1000000000000) (sym c.self.view_is) c.requires.few);
      agrees = λ lines a. step_agrees s t c.args.event _ step old.3 old.6.turns lines c.self.inside.events a;
    })

pub returns-clause-no_number_is_given_out_twice : goal.returns-clause-no_number_is_given_out_twice
returns-clause-no_number_is_given_out_twice g c = λ e n shown born.
    subst (λ (k : KernelView). is_free k.state.processes n ≡ true) c.self.view_is (birth_free c.self.inside.machine.state c.next.new.machine.state c.args.event _ c.next.ensures.step e n shown born)

pub returns-clause-counts : goal.returns-clause-counts
returns-clause-counts g c = λ steps. subst (λ (k : KernelView). CountsOne g.K.ProcessTable.one_more k.state k.visits c.next.new.machine.visits) c.self.view_is (c.next.ensures.counts steps)
