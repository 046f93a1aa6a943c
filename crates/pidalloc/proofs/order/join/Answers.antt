use Rattle.std.proofs.Common.{ap, sym, ◌∙◌}
use Rattle.pidset.proofs.RowLemmas.{row_kept, sizes_kept}
use Rattle.pidalloc.specs.Rings.{node_of}
use Rattle.pidalloc.proofs.LinkLemmas.{joining}
use Rattle.pidalloc.proofs.order.join.Goals as goal

pub get-node-requires-2 : goal.get-node-requires-2
get-node-requires-2 c = row_kept c.args.nodes.now c.set.new.self c.args.next (rw c.set.ensures (sizes_kept _ _ _)) c.requires.next_inside

pub set-requires-2 : goal.set-requires-2
set-requires-2 c = row_kept c.args.nodes.now c.set.new.self c.args.next (rw c.set.ensures (sizes_kept _ _ _)) c.requires.next_inside

pub returns : goal.returns
returns c =
    let e = c.set.ensures in
    rw (c.set-2.ensures, e) (joining c.args.nodes.now c.args.prev c.args.next c.get-node.result c.get-node-2.result c.requires.prev_inside c.requires.next_inside (c.get-node.ensures _) (ap (λ m. node_of m c.args.next) (sym e) ∙ c.get-node-2.ensures _))
