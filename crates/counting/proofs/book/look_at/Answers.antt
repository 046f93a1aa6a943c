use Rattle.std.proofs.Common.{◌∙◌, ap, map}
use Rattle.counting.specs.Texts.{looked_at}
use Rattle.counting.proofs.BookLemmas.{all_saw_more, none_seen}
use Rattle.counting.proofs.book.look_at.Goals as goal

pub loop-line-init : goal.loop-line-init
loop-line-init c = none_seen c.args.finds.now

pub loop-line-preserved : goal.loop-line-preserved
loop-line-preserved c =
    all_saw_more c.args.lines.now c.loop-line.line-index c.line-item.result c.args.finds.now c.loop-line.finds c.look_all.new.finds c.loop-line-test.true c.line-item.is c.loop-line.invariant
    (c.look_all.ensures ∙ ap (λ e. map (looked_at e) c.loop-line.finds) c.entry.ensures)
