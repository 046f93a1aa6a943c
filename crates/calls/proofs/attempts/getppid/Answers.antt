use Rattle.std.proofs.Common.{◌≡◌, ◌∙◌, ap, refl, true, pos, rules, to_z, of_z, w64}
use Rattle.posix.specs.declared.call.Call.TheVariants.{Getppid}
use Rattle.posix.specs.Common.{finish_with, attempt}
use Rattle.posix.proofs.TableLemmas.{pid_looked}
use Rattle.calls.proofs.CallLemmas.{gives_is}
use Rattle.calls.proofs.attempts.getppid.Goals as goal

pub returns-clause-attempts : goal.returns-clause-attempts
unfolding attempt
returns-clause-attempts g c = λ me e.
    let s = c.args.machine.now.state in
    let kept : to_z w64 (of_z w64 c.from.result) ≡ c.from.result = search rules in
    let value = kept ∙ c.from.ensures ∙ ap pos (c.number.ensures.value ∙ c.parent-parent.ensures.value me e) in
    let named = pid_looked c.args.pid s.processes me e in (
      true,
      gives_is s s _ _ _ c.args.pid Getppid (to_z w64 (of_z w64 c.from.result)) (pos me.parent) _ _ _ (ap (λ p. finish_with s p Getppid (pos me.parent)) named)
          c.finish_with.ensures.done c.finish_with.ensures.state refl c.finish_with.ensures.shown value,
    )
