use Rattle.std.proofs.Common.{◌∙◌, ap, sym, arith, refl, Some}
use Rattle.std.proofs.Math.Nat.{le_trans}
use Rattle.posix.specs.Common.{adopted, children_in}
use Rattle.posix.proofs.TableLemmas.{rising_changed}
use Rattle.posix.proofs.WalkLemmas.{at_child}
use Rattle.pidset.proofs.AnchorLemmas.{turned_none, turned_one}
use Rattle.proctable.specs.Records.{with_parent}
use Rattle.jobs.specs.Indexes.{anchor_in, child_key}
use Rattle.jobs.proofs.AnchorLemmas.{number_within}
use Rattle.jobs.proofs.ChildLemmas.{all_adopted, first_kid, key_read, key_within, one_adopted, one_left, still_there}
use Rattle.jobs.proofs.children.give_children.Goals as goal

pub loop-next-init : goal.loop-next-init
loop-next-init g c =
    let first = first_kid c.args.from _ _ _ c.requires.kin c.requires.there (c.next_child-next.ensures _) in
    record {
      rising = c.requires.kin.rising;
      adopted = refl;
      left = sym first.1;
      room = refl;
      sizes = refl;
      read = rw first.1 (omega arith);
      no_fewer = omega arith;
      begins = rw first.1 (sym first.0);
      turned = λ q none. turned_none c.args.from (child_key c.args.heir.now) (g.K.ProcessTable.contents c.args.table.now) c.args.anchors.now.pairs q (rw first.1 at none);
    }

pub set_parent-requires : goal.set_parent-requires
set_parent-requires g c =
    let l = c.loop-next.invariant in
    let i = at_child _ c.requires.kin.rising c.args.from c.in-Some.child (rw c.in-Some.is at l.begins) in
    rw (still_there c.args.from c.in-Some.child _ _ l.rising i (rw c.in-Some.is at l.left)) refl

pub put-requires-clause-pid : goal.put-requires-clause-pid
put-requires-clause-pid g c =
    let l = c.loop-next.invariant in
    let i = at_child _ c.requires.kin.rising c.args.from c.in-Some.child (rw c.in-Some.is at l.begins) in
    rw l.sizes (number_within _ c.in-Some.child _ c.requires.within c.requires.kin.none (rw i.found refl))

pub put-requires-clause-list : goal.put-requires-clause-list
put-requires-clause-list g c =
    let l = c.loop-next.invariant in
    let heir = c.args.heir.now in
    let i = at_child _ c.requires.kin.rising c.args.from c.in-Some.child (rw c.in-Some.is at l.begins) in
    let key = key_read c.args.from c.args.to c.in-Some.child _ _ heir c.set_parent.result l.rising i (rw c.in-Some.is at l.left) c.set_parent.ensures.value in
    rw (c.anchor_key.ensures ∙ ap (λ w. anchor_in w (Some heir)) c.of_snapshot-it.ensures ∙ key, l.sizes) (key_within _ c.in-Some.child _ i.what heir c.requires.within i.found)

pub loop-next-smaller : goal.loop-next-smaller
loop-next-smaller g c =
    let i = at_child _ c.requires.kin.rising c.args.from c.in-Some.child (rw c.in-Some.is at c.loop-next.invariant.begins) in
    rw (c.next_child-next-in-Some.ensures _ c.requires.kin c.requires.there, c.in-Some.is, i.left) (omega arith)

pub loop-next-preserved : goal.loop-next-preserved
loop-next-preserved g c =
    let rs = g.K.ProcessTable.contents c.args.table.now in
    let l = c.loop-next.invariant in
    let heir = c.args.heir.now in
    let up = c.requires.kin.rising in
    let i = at_child rs up c.args.from c.in-Some.child (rw c.in-Some.is at l.begins) in
    let moved = c.set_parent.ensures in
    let key = c.anchor_key.ensures ∙ ap (λ w. anchor_in w (Some heir)) c.of_snapshot-it.ensures ∙ key_read c.args.from c.args.to c.in-Some.child rs _ heir c.set_parent.result l.rising i (rw c.in-Some.is at l.left) moved.value in
    rw (c.next_child-next-in-Some.ensures rs c.requires.kin c.requires.there) record {
      rising = rw moved.contents (rising_changed c.in-Some.child (with_parent c.args.to) (λ r. refl) _ l.rising);
      adopted = ap (adopted c.args.from c.args.to) moved.contents ∙ one_adopted c.args.from c.args.to c.in-Some.child _ _ i.what up i.found i.parent l.adopted;
      left = ap (children_in c.args.from) moved.contents ∙ one_left c.args.from c.args.to c.in-Some.child _ _ c.requires.apart up i (rw c.in-Some.is at l.left);
      room = moved.room ∙ l.room;
      sizes = c.put.ensures.sizes ∙ l.sizes;
      read = let v = moved.visits in let r = rw (c.in-Some.is, i.left) at l.read in omega (arith, v, r);
      no_fewer = le_trans l.no_fewer moved.no_fewer;
      begins = i.next;
      turned = turned_one c.args.from c.in-Some.child (child_key heir) rs c.args.anchors.now.pairs c.loop-next.anchors.pairs _ _ i c.in-Some.is (rw key at c.put.ensures.moved) l.turned;
    }

pub returns-clause-contents : goal.returns-clause-contents
returns-clause-contents g c = let l = c.loop-next.invariant in sym (all_adopted c.args.from c.args.to _ (rw c.in_default.is at l.left)) ∙ l.adopted
