use Rattle.std.proofs.Common.{◌∙◌, sym, ◌==◌, not, arith}
use Rattle.pidset.proofs.ItemLemmas.{rises_passing}
use Rattle.proctable.proofs.SlabLemmas.{standing, index_stays, nobody_goes, processes_removed, stand_removed, length_left}
use Rattle.proctable.proofs.slab_table.SlabTableProcessTable.remove.Goals as goal

pub invariant_of-self : goal.invariant_of-self
invariant_of-self c =
    let es = c.self.inside.index.entries in
    let slab = c.self.inside.slots.processes in
    let is = sym c.remove.ensures.value ∙ c.in-Some.is in
    let s = standing es slab c.args.pid c.in-Some.slot c.self.invariant.standing is in
    rw c.remove.ensures.entries (record {
      rising = rises_passing (λ e. e.pid) (λ n. not (n == c.args.pid)) es c.self.invariant.rising;
      standing = stand_removed es slab c.remove-gone.new.self.processes c.args.pid c.in-Some.slot s.0 c.remove-gone.ensures.updates.others s.1 s.2 c.self.invariant.standing;
      counted = omega (arith, length_left es c.args.pid c.in-Some.slot c.self.invariant.rising is, c.remove-gone.ensures.len, c.self.invariant.counted);
    })

pub returns-in-Some-clause-contents : goal.returns-in-Some-clause-contents
returns-in-Some-clause-contents c =
    let es = c.self.inside.index.entries in
    let slab = c.self.inside.slots.processes in
    let s = standing es slab c.args.pid c.in-Some.slot c.self.invariant.standing (sym c.remove.ensures.value ∙ c.in-Some.is) in
    rw (c.remove.ensures.entries, ← c.self.view_is) (processes_removed es slab c.remove-gone.new.self.processes c.args.pid c.in-Some.slot s.0 c.remove-gone.ensures.updates.others s.1 s.2 c.self.invariant.standing)

pub invariant_of-self-in_default : goal.invariant_of-self-in_default
invariant_of-self-in_default c = rw c.remove.ensures.entries (index_stays c.args.pid _ _ (sym c.remove.ensures.value ∙ c.in_default.is) c.self.invariant)

pub returns-in_default-clause-contents : goal.returns-in_default-clause-contents
returns-in_default-clause-contents c = rw (c.remove.ensures.entries, ← c.self.view_is) (nobody_goes c.args.pid _ _ (sym c.remove.ensures.value ∙ c.in_default.is) c.self.invariant)
