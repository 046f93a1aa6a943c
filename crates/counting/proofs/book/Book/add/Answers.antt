use Rattle.std.proofs.Common.{rules, ap₂, map, ◌∙◌}
use Rattle.counting.specs.Texts.{after_run, saw}
use Rattle.counting.proofs.BookLemmas.{book_with_run, written}
use Rattle.counting.proofs.CourseLemmas.{on_ok_both}
use Rattle.counting.proofs.book.Book.add.Goals as goal

pub returns : goal.returns
returns c =
    let e = c.count_run.ensures in
    rw (← c.self.view_is)
    (on_ok_both c.count_run.result _ _ _ e.endings e.finds
    (λ ends finds. book_with_run c.args.lines.now.items c.sort_by_key.new.self.items c.args.ending c.args.spots.now _ c.count_run.new.endings c.count_run.new.finds _ c.add_one.new.self
    c.in_ok-sort_by_key.ensures.permutation ends
    (finds ∙ ap₂ (λ ls fs. map (after_run c.args.spots.now) (map (saw ls) fs)) c.as_slice.ensures.value c.as_mut_slice.ensures.value)
    c.in_ok-add_one.ensures.ok
    (written c.self.inside.finds.len c.count_run.new.finds _ (search rules))))
