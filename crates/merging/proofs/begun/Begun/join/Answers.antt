use Rattle.std.proofs.Common.{◌≡◌, ◌+◌, ap, arith, rules, inl, inr, ◌∙◌}
use Rattle.std.proofs.lemmas.Result.{on_ok_weaker}
use Rattle.merging.specs.declared.begun.Begun.{Begun}
use Rattle.merging.proofs.SlotLemmas.{IsFirstOf, joined_begun, joined_spots, joined_tally}
use Rattle.merging.proofs.begun.Begun.join.Goals.{else-is_before, then-is_before}
use Rattle.merging.proofs.begun.Begun.join.Goals as goal

pub returns : goal.returns
returns c =
    let old = c.args.self.now in
    let other = c.args.other in
    let mid = c.if-is_before.self in
    let last = c.if-is_before.other in
    let which : IsFirstOf old other mid = elim c.if-is_before.branch [
      | then-is_before w ↦ inl (w.self-is ∙ w.swap.ensures.x_after, search rules)
      | else-is_before w ↦ inr (w.self-is, search rules)
    ] in
    let sum : mid.count + last.count ≡ old.count + other.count = elim c.if-is_before.branch [
      | then-is_before w ↦ omega (arith, ap (λ (b : Begun). b.count) (w.self-is ∙ w.swap.ensures.x_after), ap (λ (b : Begun). b.count) (w.other-is ∙ w.swap.ensures.y_after))
      | else-is_before w ↦ omega (arith, ap (λ (b : Begun). b.count) w.self-is, ap (λ (b : Begun). b.count) w.other-is)
    ] in
    record {
      tally = λ go_on most p. on_ok_weaker c.add.result
          (λ (is : c.add.new.self ≡ mid.count + last.count). joined_tally old other mid c.add.new.self c.requires which (is ∙ sum) go_on most p) c.add.ensures.ok;
      spots = joined_spots old other mid c.requires which;
      begun = λ s place p i j. on_ok_weaker c.add.result
          (λ (is : c.add.new.self ≡ mid.count + last.count). joined_begun old other mid c.add.new.self which (is ∙ sum) s place p i j) c.add.ensures.ok;
    }
