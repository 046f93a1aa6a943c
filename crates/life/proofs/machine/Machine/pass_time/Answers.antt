use Rattle.std.proofs.Common.{◌+◌, refl, [], ap, sym, ◌∙◌, subst}
use Rattle.posix.specs.Common.{State, IsRegular}
use Rattle.posix.proofs.MemberLemmas.{in_none}
use Rattle.posix.proofs.RegularLemmas.{regular_pass}
use Rattle.posix.proofs.TouchLemmas.{touches_none}
use Rattle.life.proofs.RecheckLemmas.{listed_same}
use Rattle.life.proofs.ViewLemmas.{state_is}
use Rattle.life.proofs.machine.Machine.pass_time.Goals as goal

pub invariant_of-self : goal.invariant_of-self
invariant_of-self g c =
    let i = c.self.invariant in
    let is = ap (λ (s : State). record s { ticks = s.ticks + 1 }) (state_is c.self.view_is ∙ c.ring_all.ensures.state) in
    record {
      sound = record { regular = subst IsRegular (sym is) (regular_pass c.args.self.now.state c.ring_all.ensures.costs.regular); parents = i.sound.parents; counted = i.sound.counted; kept = i.sound.kept };
      listed = listed_same _ _ _ [] i.listed (touches_none _ _ refl refl refl) (refl, refl, λ q u e. e) refl (λ q e. e) (λ q there e. absurd (in_none q e));
      noted = i.noted;
      fresh = i.fresh;
      indexed = i.indexed;
      within = i.within;
    }
