use Rattle.std.proofs.Common.{refl, ap, sym, ◌∙◌}
use Rattle.merging.specs.Merging.{with_slot, with_slots}
use Rattle.merging.proofs.NodeCountLemmas.{counted_more}
use Rattle.merging.proofs.merging.count_slots.Goals as goal

pub loop-slot-preserved-in-Some-slot : goal.loop-slot-preserved-in-Some-slot
loop-slot-preserved-in-Some-slot c =
    let l = c.loop-slot in
    let marks = c.args.marks.now in
    let one = c.in_ok-count_begun.ensures ∙ ap (λ slot. with_slot c.args.ending marks slot l.book) (sym c.in-Some-slot.is) in
    counted_more (with_slot c.args.ending marks) (with_slots c.args.ending marks) (λ b. refl) (λ slot slots b. refl) l.begun c.pop.new.self c.in-Some.slot l.book c.count_begun.new.book _
    c.in-Some.ensures.some one l.invariant

pub loop-slot-preserved : goal.loop-slot-preserved
loop-slot-preserved c =
    let l = c.loop-slot in
    let marks = c.args.marks.now in
    let none = ap (λ slot. with_slot c.args.ending marks slot l.book) (sym c.in_default-slot.is) in
    counted_more (with_slot c.args.ending marks) (with_slots c.args.ending marks) (λ b. refl) (λ slot slots b. refl) l.begun c.pop.new.self c.in-Some.slot l.book l.book _
    c.in-Some.ensures.some none l.invariant
