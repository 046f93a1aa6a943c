use Rattle.std.proofs.Common.{◌≡◌, ◌∙◌, ap, rules, to_z, of_z, w64, [], ◌∷◌}
use Rattle.posix.specs.Common.{finish, finished}
use Rattle.life.proofs.LoanLemmas.{was_written}
use Rattle.calls.proofs.attempts.finish_shown.Goals as goal

pub returns-clause-state : goal.returns-clause-state
returns-clause-state g c =
    let s = c.args.machine.now.state in
    let kept : to_z w64 (of_z w64 c.args.value) ≡ c.args.value = search rules in
    was_written s c.args.pid c.own.result.now c.finish.new.self (finished ((0, to_z w64 (of_z w64 c.args.value)) ∷ [])) c.own.ensures.regular c.own.ensures.value c.finish.ensures
    ∙ ap (λ z. finish s c.args.pid ((0, z) ∷ [])) kept
