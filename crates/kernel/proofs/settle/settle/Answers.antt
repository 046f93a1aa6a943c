use Rattle.std.proofs.Common.{ap, ◌∙◌, arith, None}
use Rattle.posix.specs.Common.{State, clear_foregrounds}
use Rattle.calls.specs.Counts.{slots_of_rechecks}
use Rattle.kernel.proofs.settle.settle.Goals as goal

pub returns-clause-visits : goal.returns-clause-visits
unfolding clear_foregrounds
returns-clause-visits g c =
    let cleared = c.clear_foregrounds.ensures.visits in
    let gave = c.give_places.ensures.visits in
    let same = ap (λ (t : State). slots_of_rechecks t.processes None c.clear_foregrounds.new.self.to_recheck) c.clear_foregrounds.ensures.state ∙ ap (slots_of_rechecks c.args.machine.now.state.processes None) c.clear_foregrounds.ensures.to_recheck in
    omega (arith, cleared, gave, same)
