use Rattle.std.proofs.Common.{◌∙◌, ap, sym}
use Rattle.pidset.proofs.AnchorLemmas.{anchors_turned}
use Rattle.posix.proofs.ResultLemmas.{is_there}
use Rattle.jobs.specs.Indexes.{anchor_in, child_key}
use Rattle.jobs.proofs.AnchorLemmas.{anchor_within, seen_at, seen_found, key_at, child_is, number_within, stance_kept, anchors_put, anchors_same}
use Rattle.jobs.proofs.anchors.update_anchors.Goals as goal

pub put-requires-clause-pid : goal.put-requires-clause-pid
put-requires-clause-pid g c = number_within _ c.args.pid _ c.requires.within c.requires.kin.none (is_there _ _ (seen_found c.args.pid _ _ c.requires.after).1)

pub put-requires-clause-list : goal.put-requires-clause-list
put-requires-clause-list g c = rw c.anchor_key.ensures (anchor_within c.args.anchors.now.sizes c.args.pid _ c.args.change.now.after c.seen_in-parent.result c.requires.within c.requires.after)

pub update_anchors_of_children-requires-clause-within : goal.update_anchors_of_children-requires-clause-within
update_anchors_of_children-requires-clause-within g c = rw (c.put.ensures.sizes, c.seen_in-parent.ensures.contents) c.requires.within

pub put-requires-then-is_dead-clause-pid : goal.put-requires-then-is_dead-clause-pid
put-requires-then-is_dead-clause-pid g c = number_within _ c.args.pid _ c.requires.within c.requires.kin.none (is_there _ _ (seen_found c.args.pid _ _ c.requires.after).1)

pub returns-then-not-keeps_group_and_session-clause-index : goal.returns-then-not-keeps_group_and_session-clause-index
returns-then-not-keeps_group_and_session-clause-index g c = λ rs same was its h.
    let ts = g.K.ProcessTable.contents c.args.table.now in
    let key = c.anchor_key.ensures ∙ ap (anchor_in c.args.change.now.after) (c.seen_in-parent.ensures.value ∙ ap (λ n. seen_at n ts) c.requires.parent) ∙ sym (key_at c.args.pid ts _ c.requires.after) in
    anchors_turned c.args.pid (child_key c.args.change.now.after) rs ts c.args.anchors.now.pairs c.put.new.self.pairs _ same (rw key at c.put.ensures.moved) (rw (← c.seen_in-parent.ensures.contents) c.update_anchors_of_children.ensures.turned) (child_is c.args.pid ts _ c.requires.after) h

pub returns-then-is_dead-clause-index : goal.returns-then-is_dead-clause-index
returns-then-is_dead-clause-index g c = λ rs same was its h.
    let kept = stance_kept c.args.change.now.before c.args.change.now.after (sym c.keeps_group_and_session.ensures ∙ c.if-not-keeps_group_and_session.false) in
    anchors_put c.args.pid rs _ _ _ c.args.anchors.now.pairs c.put-then-is_dead.new.self.pairs same was c.requires.after kept.1 (rw (sym c.is_dead.ensures ∙ c.if-is_dead.true) c.put-then-is_dead.ensures.moved) h

pub returns-else-is_dead-clause-index : goal.returns-else-is_dead-clause-index
returns-else-is_dead-clause-index g c = λ rs same was its h.
    let kept = stance_kept c.args.change.now.before c.args.change.now.after (sym c.keeps_group_and_session.ensures ∙ c.if-not-keeps_group_and_session.false) in
    let alive = sym c.is_dead.ensures ∙ c.if-is_dead.false in
    anchors_same c.args.pid rs _ _ _ c.args.anchors.now.pairs same was c.requires.after (sym c.requires.parent ∙ sym its) kept.1 (alive ∙ sym (kept.2 alive)) h
