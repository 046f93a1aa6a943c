use Rattle.std.proofs.Common.{◌+◌, ◌∙◌, ap₂, map, drop, length, List, ℕ, Bool, Option, ◌≡◌}
use Rattle.std.proofs.lemmas.Result.{on_ok_weaker}
use Rattle.counting.specs.Texts.{marked}
use Rattle.counting.proofs.BookLemmas.{written}
use Rattle.merging.specs.declared.begun.Begun.{Begun}
use Rattle.merging.specs.Merging.{point, with_slots}
use Rattle.merging.proofs.NodeCountLemmas.{counted_is}
use Rattle.merging.proofs.merging.count_node.Goals as goal

pub returns-in-Ok : goal.returns-in-Ok
returns-in-Ok c =
    let e = c.in-Ok.ensures in
    let n = c.args.node in
    let book = c.args.book.now in
    let texts : List (List ℕ) = map (λ t. t.now) c.args.texts.now in
    let marks : length c.mark.new.marks ≡ n.marks.len = c.mark.auto.marks ∙ c.as_mut_slice.ensures.len in
    let rest = drop (length c.mark.new.marks) n.marks.items in
    let all = c.as_slice-in-Ok.ensures.value ∙ written n.marks.len c.mark.new.marks rest marks in
    let slots = λ (ms : List Bool) (bs : List (Option Begun)). with_slots c.in-Ok.ending ms bs book in
    on_ok_weaker c.count_slots.result
    (λ (is : c.count_slots.new.book ≡ slots c.as_slice-in-Ok.result.now c.replace-begun.result).
    counted_is texts (n.kernel.events + 1) (point n) n.begun c.args.events.now c.run_all.new.kernel.state c.run_all.new.lines.items c.in-Ok.ending c.mark.new.marks book c.count_slots.new.book
    e.adds e.ending
    (c.mark.ensures.marks ∙ ap₂ (marked texts) c.as_slice.ensures.value c.as_mut_slice.ensures.value)
    (is ∙ ap₂ slots all c.replace-begun.ensures.value))
    c.count_slots.ensures
