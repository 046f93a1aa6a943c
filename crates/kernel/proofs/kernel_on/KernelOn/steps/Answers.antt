use Rattle.std.proofs.Common.{◌≡◌, ◌∙◌, true, false, ap, sym, refl, arith}
use Rattle.std.proofs.Math.Nat.{le_trans}
use Rattle.std.proofs.lemmas.Option.{IfSome_then}
use Rattle.posix.specs.declared.event.Event.TheVariants.{Step}
use Rattle.posix.proofs.WakeLemmas.{settled_stays}
use Rattle.posix.specs.Common.{current_process}
use Rattle.kernel.specs.Steps.{is_followed_by_step}
use Rattle.kernel.specs.Counts.{IsAtRest}
use Rattle.kernel.specs.Views.{KernelView}
use Rattle.kernel.proofs.CountLemmas.{steps_read}
use Rattle.kernel.proofs.EventLemmas.{counts_on, followed_short}
use Rattle.kernel.proofs.RunLemmas.{step_after}
use Rattle.laws.proofs.AgreeRuns.{step_orderly}
use Rattle.laws.proofs.RefusalLemmas.{birth_free}
use Rattle.kernel.proofs.AgreeLemmas.{burst_tells, step_tells, burst_keeps}
use Rattle.kernel.proofs.kernel_on.KernelOn.steps.Goals as goal

pub invariant_of-self-2 : goal.invariant_of-self-2
invariant_of-self-2 g c =
    let old = c.self.invariant in
    let b = c.burst-end in
    let k = burst_keeps b.ensures.runs b.ensures.from b.ensures.within c.requires.few old.0 old.1 old.3 old.6 in
    let counts = counts_on b.new.machine.state c.step_behind.new.machine.state Step _ b.result.last c.step_behind.ensures.step k.0 k.1 in (
      counts.0,
      counts.1,
      settled_stays b.new.machine.state c.step_behind.new.machine.state Step _ c.step_behind.ensures.step b.ensures.runs.settled,
      c.step_behind.ensures.regular,
      c.step_behind.ensures.to_recheck,
      c.step_behind.ensures.foregrounds_unchecked,
      step_orderly b.new.machine.state c.step_behind.new.machine.state Step _ c.step_behind.ensures.step tt b.ensures.regular k.2,
    )

pub returns-clause-runs : goal.returns-clause-runs
returns-clause-runs g c = rw (← c.self.view_is) (step_after c.burst-end.ensures.runs c.burst-end.ensures.from c.step_behind.ensures.step)

pub invariant_of-self : goal.invariant_of-self
invariant_of-self g c =
    let old = c.self.invariant in
    let b = c.burst-end in
    let k = burst_keeps b.ensures.runs b.ensures.from b.ensures.within c.requires.few old.0 old.1 old.3 old.6 in
    (k.0, k.1, b.ensures.runs.settled, b.ensures.regular, b.ensures.to_recheck ∙ old.4, b.ensures.foregrounds_unchecked ∙ old.5, k.2)

pub returns-then-not-is_followed_by_step-clause-settled : goal.returns-then-not-is_followed_by_step-clause-settled
returns-then-not-is_followed_by_step-clause-settled g c = c.burst-end.ensures.runs.settled

pub returns-clause-within_events : goal.returns-clause-within_events
returns-clause-within_events g c =
    let old = c.self.invariant in
    let b = c.burst-end in
    let k = burst_keeps b.ensures.runs b.ensures.from b.ensures.within c.requires.few old.0 old.1 old.3 old.6 in
    counts_on b.new.machine.state c.step_behind.new.machine.state Step _ b.result.last c.step_behind.ensures.step k.0 k.1

pub returns-then-not-is_followed_by_step-clause-within_events : goal.returns-then-not-is_followed_by_step-clause-within_events
returns-then-not-is_followed_by_step-clause-within_events g c =
    let old = c.self.invariant in
    let b = c.burst-end.ensures in
    let k = burst_keeps b.runs b.from b.within c.requires.few old.0 old.1 old.3 old.6 in
    (k.0, k.1)

pub returns-clause-settled : goal.returns-clause-settled
returns-clause-settled g c = settled_stays c.burst-end.new.machine.state c.step_behind.new.machine.state Step _ c.step_behind.ensures.step c.burst-end.ensures.runs.settled

pub returns-then-not-is_followed_by_step-clause-tells : goal.returns-then-not-is_followed_by_step-clause-tells
returns-then-not-is_followed_by_step-clause-tells g c =
    let b = c.burst-end.ensures in
    rw (← c.self.view_is) (burst_tells c.args.entries.now.items b.runs b.from b.within c.requires.few c.requires.none c.self.invariant.3 c.self.invariant.6)

pub returns-clause-tells : goal.returns-clause-tells
returns-clause-tells g c =
    let b = c.burst-end in
    let events = ap (λ (k : KernelView). k.events) c.self.view_is in
    let follows : is_followed_by_step c.self.inside.events b.result.last b.result.trap ≡ true = grind arith in
    let short = followed_short c.self.inside.events c.args.last b.result.last b.result.trap (omega (arith, c.requires.some, events)) follows b.ensures.short in
    rw (← c.self.view_is) (step_tells b.ensures.runs b.ensures.from c.step_behind.ensures.step short c.requires.few c.self.invariant.3 c.self.invariant.6)

pub returns-clause-no_number_is_given_out_twice : goal.returns-clause-no_number_is_given_out_twice
returns-clause-no_number_is_given_out_twice g c = λ e n shown born.
    let b = c.burst-end in
    rw (← c.self.view_is) (sym (b.ensures.numbers n) ∙ birth_free b.new.machine.state c.step_behind.new.machine.state Step _ c.step_behind.ensures.step e n shown born)

pub returns-clause-visits : goal.returns-clause-visits
returns-clause-visits g c =
    let b = c.burst-end in
    let old = c.self.invariant in
    let follows : is_followed_by_step c.self.inside.events b.result.last b.result.trap ≡ true = grind arith in
    let going : c.self.inside.machine.state.halted ≡ false = grind arith in
    let rest : IsAtRest b.new.machine = record { none = b.ensures.to_recheck ∙ old.4; checked = b.ensures.foregrounds_unchecked ∙ old.5; settled = b.ensures.runs.settled; regular = b.ensures.regular } in
    rw (← c.self.view_is)
    (steps_read c.self.inside.events c.args.last c.self.inside.machine.visits b.new.machine.visits _ _ _ (record { last = b.result.last; notes = b.new.notes.items; trap = b.result.trap }) going b.ensures.taken b.ensures.state b.ensures.visits (λ e. c.step_behind.ensures.visits rest) (λ e. absurd (cc)))

pub returns-then-not-is_followed_by_step-clause-visits : goal.returns-then-not-is_followed_by_step-clause-visits
returns-then-not-is_followed_by_step-clause-visits g c =
    let b = c.burst-end in
    let alone : is_followed_by_step c.self.inside.events b.result.last b.result.trap ≡ false = grind arith in
    let going : c.self.inside.machine.state.halted ≡ false = grind arith in
    rw (← c.self.view_is)
    (steps_read c.self.inside.events c.args.last c.self.inside.machine.visits b.new.machine.visits _ _ _ (record { last = b.result.last; notes = b.new.notes.items; trap = b.result.trap }) going b.ensures.taken b.ensures.state b.ensures.visits (λ e. absurd (cc)) (λ e. refl))

pub returns-then-not-is_followed_by_step-clause-counts : goal.returns-then-not-is_followed_by_step-clause-counts
returns-then-not-is_followed_by_step-clause-counts g c = rw (← c.self.view_is) (λ goes. c.burst-end.ensures.counts)

pub returns-clause-no_fewer : goal.returns-clause-no_fewer
returns-clause-no_fewer g c = rw (← c.self.view_is) (le_trans c.burst-end.ensures.no_fewer c.step_behind.ensures.no_fewer)

pub returns-clause-counts : goal.returns-clause-counts
returns-clause-counts g c = rw (← c.self.view_is) (λ goes. IfSome_then (current_process c.self.inside.machine.state) c.burst-end.ensures.counts (λ me more. le_trans more c.step_behind.ensures.no_fewer))
