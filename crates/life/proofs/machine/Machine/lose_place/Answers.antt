use Rattle.std.proofs.Common.{inl, ◌≡◌, ap, false, ◌∙◌, refl, sym, [], ◌∷◌}
use Rattle.posix.proofs.RegularLemmas.{regular_lose}
use Rattle.posix.proofs.MemberLemmas.{still_out}
use Rattle.posix.proofs.OrderLemmas.{placed_some}
use Rattle.posix.specs.Common.{State, is_in}
use Rattle.life.specs.Machines.{MachineView}
use Rattle.life.specs.Rechecks.{with_numbers}
use Rattle.posix.proofs.TouchLemmas.{touches_lost}
use Rattle.life.proofs.RoomLemmas.{machine_ordered}
use Rattle.life.proofs.RecheckLemmas.{has_room, listed_with, loses_none}
use Rattle.life.proofs.machine.Machine.lose_place.Goals as goal

pub insert-requires : goal.insert-requires
insert-requires g c = record { room = λ out. has_room _ _ c.self.invariant.sound.regular c.self.invariant.listed }

pub invariant_of-self : goal.invariant_of-self
unfolding with_numbers
invariant_of-self g c =
    let here = placed_some _ c.args.pid (c.self.invariant.sound.regular.placed c.args.pid (sym c.has.ensures ∙ c.if-has.true)) in
    rw c.drop_place.ensures.pids (machine_ordered c.self.invariant c.drop_place.ensures.sizes (regular_lose c.args.pid _ c.self.invariant.sound.regular)
    (listed_with _ _ _ _ (c.args.pid ∷ []) (c.args.pid ∷ []) c.self.invariant.listed (touches_lost _ c.args.pid) (refl, refl, λ q u e. still_out c.args.pid q _ e) c.self.invariant.listed.room (λ q e. e) (here, tt) (λ q there e. inl e) c.insert.ensures.pids c.insert.ensures.room) c.insert.ensures.room)

pub returns-else-has-clause-is : goal.returns-else-has-clause-is
returns-else-has-clause-is g c =
    let no : is_in c.args.pid c.args.self.now.state.order ≡ false = ap (λ (v : MachineView). is_in c.args.pid v.state.order) (sym c.self.view_is) ∙ sym c.has.ensures ∙ c.if-has.false in
    rw no (ap (λ (s : State). record (c.args.self.now) { state = s }) (loses_none c.args.self.now.state c.args.pid no))
