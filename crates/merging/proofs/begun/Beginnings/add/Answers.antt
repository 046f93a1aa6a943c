use Rattle.std.proofs.Common.{◌≡◌, ◌<◌, ◌∙◌, Some, ap, arith, length, refl, subst, sym}
use Rattle.std.specs.Prelude.{IfSome, IsSome}
use Rattle.std.proofs.lemmas.Option.{slice_get_read}
use Rattle.std.proofs.lemmas.Result.{on_ok_weaker}
use Rattle.counting.specs.Tallies.{both}
use Rattle.merging.specs.Merging.{AllBegun, AreBegun, begun_tally, slot_tally, slots_tally}
use Rattle.merging.proofs.SlotLemmas.{added_all, added_slots, if_some, slot_spots, slots_put, some_put}
use Rattle.merging.proofs.begun.Beginnings.add.Goals as goal

pub add_to-requires : goal.add_to-requires
add_to-requires c =
    let bs = c.self.inside.slots.items in
    let i = c.len-spots.result in
    let old = c.index_mut.result.now in
    let within : i < length bs = omega (arith, c.in_ok-make_slot.ensures.len, ap length c.self.view_is) in
    subst (λ n. IfSome old (λ b. length b.spots ≡ n)) c.len-spots.ensures
    (slot_spots bs i old c.self.invariant (slice_get_read bs (length bs) i old refl within c.index_mut.ensures.value))

pub invariant_of-self : goal.invariant_of-self
invariant_of-self c =
    let new = c.add_to.new.slot in
    added_slots c.self.inside.slots.items c.len-spots.result new (subst (λ n. IfSome new (λ b. length b.spots ≡ n)) (sym c.len-spots.ensures) c.add_to.ensures.spots) c.self.invariant

pub returns : goal.returns
returns c =
    let bs = c.self.inside.slots.items in
    let i = c.len-spots.result in
    let old = c.index_mut.result.now in
    let new = c.add_to.new.slot in
    let made = c.in_ok-make_slot.ensures in
    let added = c.add_to.ensures in
    let within : i < length bs = omega (arith, made.len, ap length c.self.view_is) in
    let at = slice_get_read bs (length bs) i old refl within c.index_mut.ensures.value in
    record {
      tally = λ go_on most p.
          let more = begun_tally go_on most p c.args.begun in
          on_ok_weaker c.add_to.result
          (λ (joined : slot_tally go_on most p new ≡ both (slot_tally go_on most p old) more).
          slots_put go_on most p bs i old new more at joined ∙ ap (λ t. both t more) (ap (slots_tally go_on most p) c.self.view_is ∙ made.tally go_on most p))
          (added.tally go_on most p);
      all = λ s place fewest p all least is.
          let here = subst (AllBegun s place fewest p) (sym c.self.view_is) (made.all s place fewest p all) in
          let spots = subst (λ n. IfSome new (λ b. length b.spots ≡ n)) (sym c.len-spots.ensures) added.spots in
          on_ok_weaker c.add_to.result (λ (begun : IfSome new (AreBegun s place p)). added_all s place fewest p bs i new (omega (arith, least, c.len-spots.ensures)) spots begun here)
          (added.begun s place p (if_some old (λ b e. (here i b (at ∙ ap (λ o. Some o) e)).1)) is);
      some = on_ok_weaker c.add_to.result (λ (is : IsSome new). some_put bs i new within is) added.some;
    }
