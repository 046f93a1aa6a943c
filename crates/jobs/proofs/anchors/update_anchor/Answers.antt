use Rattle.std.proofs.Common.{Some}
use Rattle.jobs.proofs.AnchorLemmas.{anchor_within, number_within}
use Rattle.jobs.proofs.anchors.update_anchor.Goals as goal

pub put-requires-clause-pid : goal.put-requires-clause-pid
put-requires-clause-pid g c = number_within c.args.anchors.now.sizes c.args.pid _ c.requires.within c.requires.none c.requires.there

pub put-requires-clause-list : goal.put-requires-clause-list
put-requires-clause-list g c = rw c.anchor_key.ensures (anchor_within c.args.anchors.now.sizes c.args.pid _ c.seen_there-it.result (Some c.args.parent.now) c.requires.within c.seen_there-it.ensures.value)
