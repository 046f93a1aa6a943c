use Rattle.std.proofs.Common.{◌≡◌, ◌≤◌, ◌∙◌, None, ap, length, subst, sym}
use Rattle.merging.specs.Merging.{AllBegun, AreBegun, slots_tally}
use Rattle.merging.proofs.SlotLemmas.{each_push, slots_push}
use Rattle.merging.proofs.TallyLemmas.{and_none}
use Rattle.merging.proofs.begun.Beginnings.make_slot.Goals as goal

pub loop-self-init : goal.loop-self-init
loop-self-init c = record {
  tally = λ go_on most p. ap (slots_tally go_on most p) c.self.view_is;
  all = λ s place fewest p all. subst (AllBegun s place fewest p) (sym c.self.view_is) all;
  slots = c.self.invariant;
}

pub loop-self-preserved : goal.loop-self-preserved
loop-self-preserved c =
    let bs = c.loop-self.self-inside.slots.items in
    let was = c.loop-self.invariant in
    rw c.in_ok-push.ensures.items
    record {
      tally = λ go_on most p. slots_push go_on most p bs None ∙ and_none (slots_tally go_on most p bs) ∙ was.tally go_on most p;
      all = λ s place fewest p all. each_push (λ k b. (fewest ≤ length b.spots) × AreBegun s place p b) bs (was.all s place fewest p all);
      slots = each_push (λ k b. length b.spots ≡ k) bs was.slots;
    }

pub returns-in_err-push-clause-all : goal.returns-in_err-push-clause-all
returns-in_err-push-clause-all c = λ s place fewest p all. subst (AllBegun s place fewest p) (sym c.in_err-push.ensures.items) (c.loop-self.invariant.all s place fewest p all)
