use Rattle.std.proofs.Common.{◌<◌, ◌∙◌, ap, arith, length, refl, subst, sym}
use Rattle.std.proofs.lemmas.Option.{slice_get_read}
use Rattle.merging.specs.Merging.{AllBegun}
use Rattle.merging.specs.Slots.{AreInSlots}
use Rattle.merging.proofs.SlotLemmas.{none_taken, none_there, slot_spots, taken_all, taken_tally}
use Rattle.merging.proofs.begun.Beginnings.take.Goals as goal

pub returns-then-spots-len : goal.returns-then-spots-len
returns-then-spots-len c =
    let bs = c.self.inside.slots.items in
    let i = c.args.spots in
    let old = c.index_mut.result.now in
    let within : i < length bs = omega (arith, c.if-spots-len.true, c.len.ensures) in
    let at = slice_get_read bs (length bs) i old refl within c.index_mut.ensures.value in
    rw (c.take.ensures.value, c.take.ensures.after)
    record {
      tally = λ go_on most p. rw (← c.self.view_is) (taken_tally go_on most p bs i old at);
      none = λ none. none_there bs i old at none ∙ c.self.view_is;
      all = λ s place p all. taken_all s place p bs i old c.self.invariant at (subst (AllBegun s place i p) (sym c.self.view_is) all);
      spots = slot_spots bs i old c.self.invariant at;
    }

pub returns-else-spots-len-clause-all : goal.returns-else-spots-len-clause-all
returns-else-spots-len-clause-all c =
    λ s place p all.
    (none_taken s place p c.args.self.now c.args.spots (subst AreInSlots c.self.view_is c.self.invariant) (omega (arith, c.if-spots-len.false, c.len.ensures, ap length c.self.view_is)) all, tt)
