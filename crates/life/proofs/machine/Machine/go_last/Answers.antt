use Rattle.std.proofs.lemmas.Bool.{ne_eqb, both_ways}
use Rattle.std.proofs.Common.{◌∙◌, ap, ◌||◌, ◌==◌, ◌≡◌, refl, sym, subst, true, []}
use Rattle.posix.specs.Common.{State, is_in}
use Rattle.posix.proofs.OrderLemmas.{regular_last}
use Rattle.posix.proofs.MemberLemmas.{in_none, in_last, still_out}
use Rattle.posix.proofs.TouchLemmas.{touches_last}
use Rattle.life.proofs.RoomLemmas.{machine_ordered}
use Rattle.life.proofs.RecheckLemmas.{listed_same}
use Rattle.life.proofs.ViewLemmas.{state_is}
use Rattle.life.proofs.machine.Machine.go_last.Goals as goal

pub invariant_of-self : goal.invariant_of-self
invariant_of-self g c =
    let h = subst (λ (s : State). is_in c.args.pid s.order ≡ true) (sym (state_is c.self.view_is)) c.requires in
    rw c.go_last.ensures.pids (machine_ordered c.self.invariant c.go_last.ensures.sizes (regular_last c.args.pid _ c.self.invariant.sound.regular h)
    (listed_same _ _ _ [] c.self.invariant.listed (touches_last _ c.args.pid)
    (refl, refl, λ q u e. in_last q c.args.pid _ ∙ ap (λ b. b || c.args.pid == q) (still_out c.args.pid q _ e) ∙ ne_eqb c.args.pid q (λ same. both_ways _ e (subst (λ n. is_in n c.self.inside.order.pids ≡ true) same h))) refl (λ q e. e) (λ q there e. absurd (in_none q e))) refl)
