use Rattle.std.proofs.Common.{◌<◌, ◌∙◌, Some, ap, arith, length, subst, sym}
use Rattle.merging.specs.Slots.{AreInSlots}
use Rattle.merging.proofs.SlotLemmas.{given_all, given_more, given_next, given_none, same_set, still_in_slots}
use Rattle.merging.proofs.begun.give_slots.Goals.{in-Some+in_ok-give, in_default}
use Rattle.merging.proofs.begun.give_slots.Goals as goal

pub give-requires : goal.give-requires
give-requires c =
    let bs = c.args.slots.now in
    let l : c.loop-index.index < length bs.items = omega (arith, c.loop-index-test.true, c.len-index-end.ensures, bs.ok.0) in
    let next = given_next c.args.event c.loop-index.index bs.items c.loop-index.slots.items c.index_mut.result.now c.loop-index.invariant.given l c.index_mut.ensures.value in
    c.requires c.loop-index.index c.in-Some.begun (next.1 ∙ ap (λ o. Some o) c.in-Some.is)

pub returns-in_err-give-clause-slots : goal.returns-in_err-give-clause-slots
returns-in_err-give-clause-slots c = λ are.
    let bs = c.args.slots.now in
    let l : c.loop-index.index < length bs.items = omega (arith, c.loop-index-test.true, c.len-index-end.ensures, bs.ok.0) in
    let next = given_next c.args.event c.loop-index.index bs.items c.loop-index.slots.items c.index_mut.result.now c.loop-index.invariant.given l c.index_mut.ensures.value in
    still_in_slots c.loop-index.slots.items c.loop-index.index c.in-Some.begun c.give.new.self (next.0 ∙ ap (λ o. Some o) c.in-Some.is) c.in_err-give.ensures.spots (c.loop-index.invariant.slots are)

pub loop-index-preserved : goal.loop-index-preserved
loop-index-preserved c =
    let x = c.args.event in
    let i = c.loop-index.index in
    let bs = c.args.slots.now in
    let cs = c.loop-index.slots.items in
    let was = c.loop-index.invariant in
    let l : i < length bs.items = omega (arith, c.loop-index-test.true, c.len-index-end.ensures, bs.ok.0) in
    let next = given_next x i bs.items cs c.index_mut.result.now was.given l c.index_mut.ensures.value in
    elim c.match-index_mut.branch [
      | in-Some+in_ok-give w ↦
          let b = w.in-Some.begun in
          let new = w.in_ok-give.ensures in
          let here = ap (λ o. Some o) w.in-Some.is in
          rw w.slots-is
          record {
            given = given_more x i bs.items cs b w.give.new.self was.given (next.1 ∙ here) new.count new.spots new.given;
            slots = λ are. still_in_slots cs i b w.give.new.self (next.0 ∙ here) new.spots (was.slots are);
          }
      | in_default w ↦
          rw w.slots-is
          record {
            given = given_none x i bs.items cs c.index_mut.result.now was.given next.1 w.in_default.is;
            slots = λ are. subst AreInSlots (sym (same_set cs i c.index_mut.result.now next.0)) (was.slots are);
          }
    ]

pub returns-clause-given : goal.returns-clause-given
returns-clause-given c =
    let bs = c.args.slots.now in
    c.loop-index.invariant.given ∙ given_all c.args.event c.loop-index.index bs.items (omega (arith, c.loop-index-test.false, c.len-index-end.ensures, bs.ok.0))
