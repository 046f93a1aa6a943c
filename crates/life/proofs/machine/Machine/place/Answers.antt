use Rattle.std.proofs.lemmas.Bool.{ne_eqb}
use Rattle.std.proofs.Common.{inl, ◌≡◌, ◌∙◌, ◌||◌, ◌==◌, ap, refl, sym, subst, arith, true, false, [], ◌∷◌}
use Rattle.posix.specs.Common.{State, is_in, IsPlaced}
use Rattle.posix.proofs.OrderLemmas.{regular_placed}
use Rattle.posix.proofs.TableLemmas.{pid_looked}
use Rattle.posix.proofs.MemberLemmas.{in_last, in_one, apart_first}
use Rattle.posix.proofs.TouchLemmas.{touches_placed}
use Rattle.life.specs.Machines.{MachineView}
use Rattle.life.proofs.RoomLemmas.{machine_ordered}
use Rattle.life.proofs.RecheckLemmas.{listed_same}
use Rattle.life.proofs.ViewLemmas.{state_is}
use Rattle.life.proofs.machine.Machine.place.Goals as goal

pub place-requires-clause-some : goal.place-requires-clause-some
place-requires-clause-some g c =
    let there = subst (λ (s : State). IsPlaced s.processes c.args.pid) (sym (state_is c.self.view_is)) c.requires.there in
    let l = (c.self.invariant.sound.regular.bounded c.args.pid there.what there.found).least in
    let same = pid_looked c.args.pid _ there.what there.found in
    omega (arith, l, same)

pub place-requires-clause-room : goal.place-requires-clause-room
place-requires-clause-room g c =
    let there = subst (λ (s : State). IsPlaced s.processes c.args.pid) (sym (state_is c.self.view_is)) c.requires.there in
    c.self.invariant.sound.kept.room c.args.pid (rw there.found refl)

pub invariant_of-self : goal.invariant_of-self
unfolding is_in
invariant_of-self g c =
    let there = subst (λ (s : State). IsPlaced s.processes c.args.pid) (sym (state_is c.self.view_is)) c.requires.there in
    let none = subst (λ (s : State). is_in c.args.pid s.order ≡ false) (sym (state_is c.self.view_is)) c.requires.none in
    rw c.place.ensures.pids (machine_ordered c.self.invariant c.place.ensures.sizes (regular_placed c.args.pid _ c.self.invariant.sound.regular there none)
    (listed_same _ _ _ (c.args.pid ∷ []) c.self.invariant.listed (λ q r e u. touches_placed _ c.args.pid q r e refl)
    (refl, refl, λ q u e. in_last q c.args.pid _ ∙ ap (λ b. b || c.args.pid == q) e ∙ ne_eqb c.args.pid q (λ same. apart_first q c.args.pid [] u (sym same))) refl (λ q e. e)
    (λ q there e. inl (subst (λ n. is_in n c.self.inside.to_recheck.pids ≡ true) (sym (in_one q c.args.pid e)) (ap (λ (m : MachineView). is_in c.args.pid m.to_recheck) c.self.view_is ∙ c.requires.to_recheck)))) refl)
