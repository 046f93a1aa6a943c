use Rattle.std.proofs.Common.{◌∙◌, ap, sym, arith, cond}
use Rattle.std.proofs.lemmas.Option.{IfSome_then}
use Rattle.posix.specs.Common.{State, current_process, Outcome, silent, next, happens, step, settled}
use Rattle.kernel.specs.Counts.{slots_of_step}
use Rattle.kernel.proofs.step.step_behind.Goals as goal

pub returns-clause-step : goal.returns-clause-step
unfolding next happens
returns-clause-step g c =
    let s = c.args.machine.now.state in
    let acted = c.act_behind.ensures.steps in
    record {
      granted = acted.0;
      comes = ap (λ b. cond {A = Outcome} b (silent s) (settled (step acted.0 s (current_process s)))) c.requires.going ∙ ap settled acted.1
          ∙ ap (λ (t : State). record { state = t; entries = c.act_behind.new.entries.items }) (sym c.settle.ensures.state);
    }

pub returns-clause-visits : goal.returns-clause-visits
returns-clause-visits g c = λ rest.
    let s = c.args.machine.now.state in
    IfSome_then (slots_of_step s (current_process s)) (c.act_behind.ensures.reads rest) (λ n h. omega (arith, h, c.settle.ensures.visits))
