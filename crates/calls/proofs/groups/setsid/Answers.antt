use Rattle.std.proofs.Common.{◌≡◌, ◌∙◌, ap, sym, subst, refl, true, pos, rules, to_z, of_z, w64}
use Rattle.std.specs.Option.{IsSome}
use Rattle.posix.specs.declared.call.Call.TheVariants.{Setsid}
use Rattle.posix.specs.Common.{State, process, change, finish_with, refused, refusal, in_session, attempt}
use Rattle.posix.proofs.TableLemmas.{pid_looked}
use Rattle.posix.proofs.OrderLemmas.{placed_some}
use Rattle.calls.proofs.CallLemmas.{gives_is}
use Rattle.calls.proofs.GroupCallLemmas.{has_led, has_not_led, session_led, session_refused, there_led}
use Rattle.calls.proofs.groups.setsid.Goals as goal

pub finish_with-requires-clause-there : goal.finish_with-requires-clause-there
finish_with-requires-clause-there g c =
    let s = c.args.machine.now.state in
    let p = c.args.pid in
    let me = c.requires.placed in
    let led = has_led s _ p me.what _ _ c.in-Ok.is (c.new_session.ensures.refused me.what me.found) (c.new_session.ensures.leads me.what me.found) in
    subst (λ (t : State). IsSome (process t p)) (sym led.state) (there_led s p (placed_some s.processes p me))

pub refuse-requires-clause-there : goal.refuse-requires-clause-there
refuse-requires-clause-there g c =
    let s = c.args.machine.now.state in
    let p = c.args.pid in
    let me = c.requires.placed in
    let stays = has_not_led c.args.machine.now _ p me.what _ _ c.in-Err.is (c.new_session.ensures.refused me.what me.found) (c.new_session.ensures.leads me.what me.found) in
    subst (λ (t : State). IsSome (process t p)) (sym stays.state) (placed_some s.processes p me)

pub returns-in-Ok-clause-attempts : goal.returns-in-Ok-clause-attempts
unfolding attempt
returns-in-Ok-clause-attempts g c = λ me e.
    let s = c.args.machine.now.state in
    let p = c.args.pid in
    let named = pid_looked p s.processes me e in
    let led = has_led s _ p me _ _ c.in-Ok.is (c.new_session.ensures.refused me e) (c.new_session.ensures.leads me e) in
    let kept : to_z w64 (of_z w64 c.from.result) ≡ c.from.result = search rules in (
      true,
      gives_is s (change s p in_session) _ _ _ p Setsid _ (pos p) _ _ _ (session_led s me led.may ∙ ap (λ q. finish_with (change s q in_session) q Setsid (pos q)) named)
          c.finish_with.ensures.done c.finish_with.ensures.state led.state c.finish_with.ensures.shown (kept ∙ c.from.ensures ∙ ap pos c.number.ensures.value),
    )

pub returns-in-Err-clause-attempts : goal.returns-in-Err-clause-attempts
unfolding attempt
returns-in-Err-clause-attempts g c = λ me e.
    let s = c.args.machine.now.state in
    let p = c.args.pid in
    let named = pid_looked p s.processes me e in
    let stays = has_not_led c.args.machine.now _ p me _ _ c.in-Err.is (c.new_session.ensures.refused me e) (c.new_session.ensures.leads me e) in (
      true,
      gives_is s s _ _ _ p Setsid (refusal c.in-Err.errno) _ _ _ _ (session_refused s me stays.refused ∙ ap (λ why. refused s me.pid Setsid why) (sym stays.errno) ∙ ap (λ q. refused s q Setsid c.in-Err.errno) named)
          c.refuse.ensures.done c.refuse.ensures.state stays.state c.refuse.ensures.shown refl,
    )
