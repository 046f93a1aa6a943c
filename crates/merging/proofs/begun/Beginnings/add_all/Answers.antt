use Rattle.std.proofs.Common.{◌≡◌, ◌≤◌, ◌++◌, ◌∷◌, ◌∙◌, [], None, Some, ap, inl, length, subst, sym}
use Rattle.merging.specs.Merging.{AllBegun, AreBegun, slots_tally}
use Rattle.merging.proofs.IndexLemmas.{last_there}
use Rattle.merging.proofs.SlotLemmas.{each_pop, popped_tally, some_left}
use Rattle.merging.proofs.TallyLemmas.{and_none}
use Rattle.merging.proofs.begun.Beginnings.add_all.Goals as goal

pub loop-slot-preserved-in-Continue-1 : goal.loop-slot-preserved-in-Continue-1
loop-slot-preserved-in-Continue-1 c =
    let was = c.loop-slot.invariant in
    let added = c.in_ok-add.ensures in
    let begun = c.in-Some-slot.begun in
    let rest = c.pop.new.self in
    let is : c.loop-slot.other ≡ rest ++ Some begun ∷ [] = c.in-Some.ensures.some ∙ ap (λ o. rest ++ o ∷ []) c.in-Some-slot.is in
    record {
      tally = λ go_on most p.
          popped_tally go_on most p rest c.loop-slot.other (Some begun) (slots_tally go_on most p c.loop-slot.self) (slots_tally go_on most p c.add.new.self) is (added.tally go_on most p)
          ∙ was.tally go_on most p;
      all = λ s place fewest p all too.
          let now = was.all s place fewest p all too in
          let others = subst (AllBegun s place fewest p) is now.1 in
          let last = others (length rest) begun (last_there rest (Some begun)) in
          (added.all s place fewest p now.0 last.0 last.1, each_pop (λ k b. (fewest ≤ length b.spots) × AreBegun s place p b) rest (Some begun) others);
      some = λ _. inl added.some;
    }

pub loop-slot-preserved : goal.loop-slot-preserved
loop-slot-preserved c =
    let was = c.loop-slot.invariant in
    let slot = c.in-Some.slot in
    let rest = c.pop.new.self in
    let is : c.loop-slot.other ≡ rest ++ None ∷ [] = c.in-Some.ensures.some ∙ ap (λ o. rest ++ o ∷ []) c.in_default-slot.is in
    record {
      tally = λ go_on most p.
          let tally = slots_tally go_on most p c.loop-slot.self in
          popped_tally go_on most p rest c.loop-slot.other None tally tally is (sym (and_none tally)) ∙ was.tally go_on most p;
      all = λ s place fewest p all too.
          let now = was.all s place fewest p all too in
          (now.0, each_pop (λ k b. (fewest ≤ length b.spots) × AreBegun s place p b) rest None (subst (AllBegun s place fewest p) is now.1));
      some = λ some. some_left rest c.loop-slot.other is (was.some some);
    }

pub returns-clause-all : goal.returns-clause-all
returns-clause-all c = λ s place fewest p all too. (c.loop-slot.invariant.all s place fewest p all too).0
