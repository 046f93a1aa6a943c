use Rattle.std.proofs.Common.{◌≡◌, ◌∙◌, ap, sym, subst, refl, true, pos, rules, to_z, of_z, w64, Some, None, arith}
use Rattle.std.specs.Option.{IsSome}
use Rattle.std.proofs.lemmas.Int.{to_z_pos}
use Rattle.posix.specs.declared.call.Call.TheVariants.{Alarm}
use Rattle.posix.specs.declared.errno.Errno.TheVariants.{EINVAL}
use Rattle.posix.specs.Common.{argument, State, process, change, register, finish_call, finish_with, refusal, alarm, alarm_in, ticks_in, ticks_left, due_in, with_alarm, attempt}
use Rattle.posix.proofs.TableLemmas.{pid_looked}
use Rattle.posix.proofs.OrderLemmas.{placed_some}
use Rattle.posix.proofs.TouchLemmas.{unseen_with_alarm}
use Rattle.posix.proofs.ReportLemmas.{some_changed}
use Rattle.life.proofs.LoanLemmas.{own_is}
use Rattle.life.proofs.ViewLemmas.{state_is}
use Rattle.calls.proofs.CallLemmas.{gives_is, answers_then}
use Rattle.calls.proofs.attempts.alarm.Goals as goal

pub returns-in_default-clause-attempts : goal.returns-in_default-clause-attempts
unfolding attempt alarm
returns-in_default-clause-attempts g c = λ me e.
    let s = c.args.machine.now.state in
    let p = c.args.pid in
    let named = pid_looked p s.processes me e in
    let same = state_is c.look.follows.holds-at-none in
    let is = own_is s p c.look.result.now me c.look.ensures.value e in
    let kept : to_z w64 (of_z w64 c.register-word.result) ≡ c.register-word.result = search rules in
    let word : to_z w64 (of_z w64 c.register-word.result) ≡ argument me 1 = kept ∙ c.register-word.ensures ∙ ap (λ o. register o.cpu 1) is in
    let none : ticks_in (argument me 1) ≡ None = ap ticks_in (sym word) ∙ sym c.ticks_in.ensures ∙ c.in_default.is in (
      true,
      gives_is s s _ _ _ p Alarm (refusal EINVAL) (refusal EINVAL) _ _ _ (ap (λ o. finish_call s me.pid Alarm (alarm_in s.ticks me o)) none ∙ ap (λ q. finish_with s q Alarm (refusal EINVAL)) named)
          c.refuse.ensures.done c.refuse.ensures.state same c.refuse.ensures.shown refl,
    )

pub finish_with-requires-clause-there : goal.finish_with-requires-clause-there
finish_with-requires-clause-there g c =
    let same = state_is c.look.follows.holds-at-none in
    let here = subst (λ (t : State). IsSome (process t c.args.pid)) (sym same) (placed_some _ c.args.pid c.requires.acting.placed) in
    subst (λ (t : State). IsSome (process t c.args.pid)) (sym c.set_alarm-left.ensures.changes.state) (some_changed c.args.pid c.args.pid (with_alarm _) (unseen_with_alarm _).pid _ here)

pub returns-clause-attempts : goal.returns-clause-attempts
unfolding attempt alarm
returns-clause-attempts g c = λ me e.
    let s = c.args.machine.now.state in
    let p = c.args.pid in
    let named = pid_looked p s.processes me e in
    let same = state_is c.look.follows.holds-at-none in
    let is = own_is s p c.look.result.now me c.look.ensures.value e in
    let kept : to_z w64 (of_z w64 c.register-word.result) ≡ c.register-word.result = search rules in
    let word : to_z w64 (of_z w64 c.register-word.result) ≡ argument me 1 = kept ∙ c.register-word.ensures ∙ ap (λ o. register o.cpu 1) is in
    let some : ticks_in (argument me 1) ≡ Some c.in-Some.ticks = ap ticks_in (sym word) ∙ sym c.ticks_in.ensures ∙ c.in-Some.is in
    let due = due_in s.ticks c.in-Some.ticks in
    let left = pos (ticks_left s.ticks me.alarm) in
    let few = c.set_alarm-left.ensures.few in
    let value = to_z_pos w64 c.set_alarm-left.result (omega (arith, few)) ∙ ap pos (c.set_alarm-left.ensures.left me (ap (λ (t : State). process t p) same ∙ e) ∙ ap (λ (t : State). ticks_left t.ticks me.alarm) same) in (
      true,
      gives_is s (change s p (with_alarm due)) _ _ _ p Alarm _ left _ _ _ (ap (λ o. finish_call s me.pid Alarm (alarm_in s.ticks me o)) some ∙ ap (λ q. finish_call s q Alarm (alarm_in s.ticks me (Some c.in-Some.ticks))) named ∙ answers_then s p Alarm left (with_alarm due) (unseen_with_alarm due).pid)
          c.finish_with.ensures.done c.finish_with.ensures.state (c.set_alarm-left.ensures.changes.state ∙ ap (λ (t : State). change t p (with_alarm (due_in t.ticks c.in-Some.ticks))) same) c.finish_with.ensures.shown value,
    )
