use Rattle.std.proofs.Common.{◌≡◌, ◌∙◌, ap, refl, sym, subst, true, false, None, ◌++◌, ◌∷◌, []}
use Rattle.std.proofs.lemmas.Bool.{eq-eqb, or_right}
use Rattle.posix.specs.Common.{State, process, IsPlaced, can_act}
use Rattle.posix.proofs.MemberLemmas.{in_last}
use Rattle.posix.proofs.SettleLemmas.{woken_is, wakes_placed}
use Rattle.life.specs.Consoles.{reads}
use Rattle.posix.proofs.ResultLemmas.{there}
use Rattle.life.proofs.ViewLemmas.{state_is}
use Rattle.kernel.proofs.BlockLemmas.{placed_unread}
use Rattle.kernel.proofs.settle.wake.Goals as goal

pub returns-then-has_place-clause-state : goal.returns-then-has_place-clause-state
returns-then-has_place-clause-state g c =
    let s = c.args.machine.now.state in
    let me = there (process s c.args.pid) c.requires.there in
    sym (woken_is s c.args.pid me.what true (can_act s me.what) me.found (sym c.has_place.ensures ∙ c.if-has_place.true) refl)

pub place-requires-clause-there : goal.place-requires-clause-there
place-requires-clause-there g c =
    let s = c.args.machine.now.state in
    let me = there (process s c.args.pid) c.requires.there in
    let seen = c.snapshot.ensures.looks.same.state in
    let acts = ap (λ (t : State). can_act t me.what) (sym seen) ∙ sym (c.can_act.ensures.value me.what (ap (λ (t : State). process t c.args.pid) seen ∙ me.found)) ∙ c.if-can_act.true in
    subst (λ (t : State). IsPlaced t.processes c.args.pid) (sym (c.can_act.ensures.same.state ∙ seen)) (wakes_placed s c.args.pid me.what me.found acts)

pub returns-then-can_act-clause-reads : goal.returns-then-can_act-clause-reads
returns-then-can_act-clause-reads g c =
    let t = c.can_act.new.machine.state in
    subst (λ (u : State). None ≡ reads u c.args.pid) (sym (state_is c.place.ensures)) (placed_unread (record t { order = t.order ++ c.args.pid ∷ [] }) c.args.pid (in_last c.args.pid c.args.pid t.order ∙ or_right _ _ (eq-eqb c.args.pid c.args.pid refl)))

pub returns-then-can_act-clause-state : goal.returns-then-can_act-clause-state
returns-then-can_act-clause-state g c =
    let s = c.args.machine.now.state in
    let me = there (process s c.args.pid) c.requires.there in
    let seen = c.snapshot.ensures.looks.same.state in
    let acts = ap (λ (t : State). can_act t me.what) (sym seen) ∙ sym (c.can_act.ensures.value me.what (ap (λ (t : State). process t c.args.pid) seen ∙ me.found)) ∙ c.if-can_act.true in
    let none = sym c.has_place.ensures ∙ c.if-has_place.false in
    state_is c.place.ensures ∙ ap (λ (t : State). record t { order = t.order ++ c.args.pid ∷ [] }) (c.can_act.ensures.same.state ∙ seen)
    ∙ sym (woken_is s c.args.pid me.what false true me.found none acts)
