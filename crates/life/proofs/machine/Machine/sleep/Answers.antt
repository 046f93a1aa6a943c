use Rattle.std.proofs.Common.{◌≡◌, Some, false, refl, subst, sym}
use Rattle.posix.specs.Common.{Process, can_act, State, process, is_in_read}
use Rattle.posix.proofs.RegularLemmas.{regular_lose}
use Rattle.life.proofs.ReaderLemmas.{listed_asleep}
use Rattle.life.proofs.RoomLemmas.{machine_ordered}
use Rattle.life.proofs.ViewLemmas.{state_is}
use Rattle.life.proofs.machine.Machine.sleep.Goals as goal

pub invariant_of-self : goal.invariant_of-self
invariant_of-self g c =
    let same = sym (state_is c.self.view_is) in
    rw c.drop_place.ensures.pids (machine_ordered c.self.invariant c.drop_place.ensures.sizes (regular_lose c.args.pid _ c.self.invariant.sound.regular)
    (listed_asleep _ c.args.pid _ c.self.invariant.listed (subst (λ (s : State). (r : Process) → process s c.args.pid ≡ Some r → can_act s r ≡ false) same c.requires.rests) (subst (λ (s : State). (r : Process) → process s c.args.pid ≡ Some r → is_in_read r.blocked ≡ false) same c.requires.unread)) refl)
