use Rattle.std.proofs.Common.{◌≡◌, ◌∙◌, ap, sym, subst, refl, true, pos, rules, to_z, of_z, w64, ◌∷◌, [], ◌++◌}
use Rattle.std.specs.Option.{IsSome}
use Rattle.posix.specs.declared.call.Call.TheVariants.{Exec}
use Rattle.posix.specs.declared.entry.Entry.TheVariants.{Called}
use Rattle.posix.specs.declared.errno.Errno.TheVariants.{ENOENT}
use Rattle.posix.specs.Common.{argument, State, process, change, register, refused, refusal, executed, attempt}
use Rattle.posix.proofs.TableLemmas.{pid_looked}
use Rattle.life.proofs.LoanLemmas.{own_is}
use Rattle.life.proofs.ViewLemmas.{state_is}
use Rattle.calls.specs.Outcomes.{Comes}
use Rattle.calls.proofs.CallLemmas.{gives_is}
use Rattle.calls.proofs.GroupCallLemmas.{has_run, has_not_run, exec_made}
use Rattle.calls.specs.declared.outcome.Attempt.TheVariants as came
use Rattle.calls.proofs.programs.exec.Goals as goal

pub refuse-requires-clause-there : goal.refuse-requires-clause-there
refuse-requires-clause-there g c =
    let s = c.args.machine.now.state in
    let p = c.args.pid in
    let same = state_is c.look.follows.holds-at-none in
    let idle = has_not_run s _ _ p _ _ same c.if-not-exec_named.true c.exec_named.ensures.done c.exec_named.ensures.none in
    subst (λ (t : State). IsSome (process t p)) (sym idle.state) c.requires.there

pub returns-then-not-exec_named-clause-attempts : goal.returns-then-not-exec_named-clause-attempts
unfolding attempt
returns-then-not-exec_named-clause-attempts g c = λ me e.
    let s = c.args.machine.now.state in
    let p = c.args.pid in
    let same = state_is c.look.follows.holds-at-none in
    let idle = has_not_run s _ _ p _ _ same c.if-not-exec_named.true c.exec_named.ensures.done c.exec_named.ensures.none in
    let is = own_is s p c.look.result.now me c.look.ensures.value e in
    let kept : to_z w64 (of_z w64 c.register-word.result) ≡ c.register-word.result = search rules in
    let word : to_z w64 (of_z w64 c.register-word.result) ≡ argument me 1 = kept ∙ c.register-word.ensures ∙ ap (λ o. register o.cpu 1) is in (
      true,
      gives_is s s _ _ _ p Exec (refusal ENOENT) (refusal ENOENT) _ _ _ (idle.refused me (sym word) ∙ ap (λ q. refused s q Exec ENOENT) (pid_looked p s.processes me e))
          c.refuse.ensures.done c.refuse.ensures.state idle.state c.refuse.ensures.shown refl,
    )

pub returns-clause-attempts : goal.returns-clause-attempts
unfolding attempt
returns-clause-attempts g c = λ me e.
    let s = c.args.machine.now.state in
    let p = c.args.pid in
    let named = pid_looked p s.processes me e in
    let same = state_is c.look.follows.holds-at-none in
    let run = has_run s _ _ p _ _ same c.if-not-exec_named.false c.exec_named.ensures.done c.exec_named.ensures.none in
    let is = own_is s p c.look.result.now me c.look.ensures.value e in
    let kept : to_z w64 (of_z w64 c.register-word.result) ≡ c.register-word.result = search rules in
    let word : to_z w64 (of_z w64 c.register-word.result) ≡ argument me 1 = kept ∙ c.register-word.ensures ∙ ap (λ o. register o.cpu 1) is in (
      true,
      subst (λ a. Comes s a came.Done c.args.entries.now.items c.push.new.self.items c.exec_named.new.self.state) (sym (exec_made s me run.number run.program (sym word ∙ run.word) run.found))
          (c.push.ensures.items ∙ ap (λ q. c.args.entries.now.items ++ Called q Exec (pos 0) ∷ []) (sym named), run.state ∙ ap (λ q. change s q (executed run.number run.program)) (sym named)),
    )
