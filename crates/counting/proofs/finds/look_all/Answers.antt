use Rattle.std.proofs.Common.{arith}
use Rattle.std.proofs.lemmas.List.Edits.{map_over_more}
use Rattle.counting.specs.Texts.{looked_at}
use Rattle.counting.proofs.finds.look_all.Goals as goal

pub loop-find-preserved : goal.loop-find-preserved
loop-find-preserved c =
    rw (c.look.ensures, ← c.find-item.is) (map_over_more (looked_at c.args.entry.now) c.args.finds.now c.loop-find.finds c.loop-find.find-index c.find-item.result (omega arith) c.loop-find.invariant c.find-item.is)
