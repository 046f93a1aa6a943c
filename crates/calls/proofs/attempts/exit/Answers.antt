use Rattle.std.proofs.Common.{◌≡◌, ◌∙◌, ap, true, rules, to_z, of_z, w64, ◌++◌}
use Rattle.posix.specs.Common.{State, process, exited, argument, end_process, attempt, register}
use Rattle.life.proofs.LoanLemmas.{own_is}
use Rattle.life.proofs.ViewLemmas.{state_is}
use Rattle.calls.proofs.attempts.exit.Goals as goal

pub returns-clause-attempts : goal.returns-clause-attempts
unfolding attempt
returns-clause-attempts g c = λ me e.
    let s = c.args.machine.now.state in
    let same = state_is c.look.follows.holds-at-none in
    let last = ap (λ (t : State). process t c.args.pid) same ∙ e in
    let is = own_is s c.args.pid c.look.result.now me c.look.ensures.value e in
    let kept : to_z w64 (of_z w64 c.register-code.result) ≡ c.register-code.result = search rules in
    let code : to_z w64 (of_z w64 c.register-code.result) ≡ argument me 1 = kept ∙ c.register-code.ensures ∙ ap (λ o. register o.cpu 1) is in
    let status = c.exited.ensures ∙ ap exited code in (
      true,
      (
        c.end.ensures.entries me last ∙ ap (λ (t : State). c.args.entries.now.items ++ (end_process t me c.exited.result).entries) same
            ∙ ap (λ n. c.args.entries.now.items ++ (end_process s me n).entries) status,
        c.end.ensures.state me last ∙ ap (λ (t : State). (end_process t me c.exited.result).state) same ∙ ap (λ n. (end_process s me n).state) status,
      ),
    )
