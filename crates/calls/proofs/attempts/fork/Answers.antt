use Rattle.std.proofs.Common.{◌≡◌, ◌∙◌, ◌+◌, ap, sym, refl, subst, true, false, pos, rules, to_z, of_z, w64, Some, None, [], ◌∷◌}
use Rattle.std.specs.Option.{IsSome}
use Rattle.posix.specs.declared.call.Call.TheVariants.{Fork}
use Rattle.posix.specs.declared.entry.Entry.TheVariants.{NoMemory}
use Rattle.posix.specs.declared.errno.Errno.TheVariants.{EAGAIN}
use Rattle.posix.specs.Common.{State, process, next_pid, refusal, finish_with, no_memory, fork_as, born, child_of, attempt}
use Rattle.posix.proofs.OrderLemmas.{placed_some}
use Rattle.posix.proofs.TableLemmas.{pid_looked}
use Rattle.life.proofs.ViewLemmas.{state_is}
use Rattle.calls.proofs.CallLemmas.{gives_is, shows_is}
use Rattle.posix.proofs.RegularLemmas.{some_inserted}
use Rattle.calls.proofs.attempts.fork.Goals as goal

pub returns-in_default-clause-attempts : goal.returns-in_default-clause-attempts
unfolding attempt fork_as
returns-in_default-clause-attempts g c = λ me e.
    let s = c.args.machine.now.state in
    let named = pid_looked c.args.pid s.processes me e in
    let none : next_pid s ≡ None = sym c.next_pid.ensures.value ∙ c.in_default.is in (
      true,
      gives_is s s _ _ _ c.args.pid Fork (refusal EAGAIN) (refusal EAGAIN) _ _ _ (ap (fork_as true s me) none ∙ ap (λ q. finish_with s q Fork (refusal EAGAIN)) named)
          c.refuse.ensures.done c.refuse.ensures.state (state_is c.next_pid.ensures.same) c.refuse.ensures.shown refl,
    )

pub finish_with-requires-clause-there : goal.finish_with-requires-clause-there
finish_with-requires-clause-there g c =
    let s = c.args.machine.now.state in
    let me = c.requires.acting.placed in
    let same = state_is c.next_pid.ensures.same in
    let after = c.in-Ok.ensures.ok me.what (ap (λ (t : State). process t c.args.pid) same ∙ me.found) ∙ ap (λ (t : State). born t me.what c.in-Some.child) same in
    subst (λ (t : State). IsSome (process t c.args.pid)) (sym after)
    (some_inserted (child_of (s.births + 1) me.what c.in-Some.child) c.args.pid s.processes (placed_some s.processes c.args.pid me))

pub returns-in-Ok-clause-attempts : goal.returns-in-Ok-clause-attempts
unfolding attempt fork_as
returns-in-Ok-clause-attempts g c = λ me e.
    let s = c.args.machine.now.state in
    let p = c.args.pid in
    let child = c.in-Some.child in
    let named = pid_looked p s.processes me e in
    let some : next_pid s ≡ Some child = sym c.next_pid.ensures.value ∙ c.in-Some.is in
    let kept : to_z w64 (of_z w64 c.from.result) ≡ c.from.result = search rules in
    let value = kept ∙ c.from.ensures ∙ ap pos c.number.ensures.value in
    let same = state_is c.next_pid.ensures.same in
    let after = c.in-Ok.ensures.ok me (ap (λ (t : State). process t p) same ∙ e) ∙ ap (λ (t : State). born t me child) same in (
      true,
      gives_is s (born s me child) _ _ _ p Fork (to_z w64 (of_z w64 c.from.result)) (pos child) _ _ _ (ap (fork_as true s me) some ∙ ap (λ q. finish_with (born s me child) q Fork (pos child)) named)
          c.finish_with.ensures.done c.finish_with.ensures.state after c.finish_with.ensures.shown value,
    )

pub refuse_memory-requires-clause-there : goal.refuse_memory-requires-clause-there
refuse_memory-requires-clause-there g c =
    let s = c.args.machine.now.state in
    subst (λ (t : State). IsSome (process t c.args.pid)) (sym (c.in-Err.ensures.err.state ∙ state_is c.next_pid.ensures.same)) (placed_some s.processes c.args.pid c.requires.acting.placed)

pub returns-in-Err-clause-attempts : goal.returns-in-Err-clause-attempts
unfolding attempt fork_as
returns-in-Err-clause-attempts g c = λ me e.
    let s = c.args.machine.now.state in
    let named = pid_looked c.args.pid s.processes me e in
    let some : next_pid s ≡ Some c.in-Some.child = sym c.next_pid.ensures.value ∙ c.in-Some.is in (
      false,
      shows_is s s _ _ _ c.args.pid ((0, refusal EAGAIN) ∷ []) (NoMemory c.args.pid Fork) _ _ _ (ap (fork_as false s me) some ∙ ap (λ q. no_memory s q Fork) named) c.refuse_memory.ensures.done c.refuse_memory.ensures.state (c.in-Err.ensures.err.state ∙ state_is c.next_pid.ensures.same) c.refuse_memory.ensures.shown,
    )
