use Rattle.std.proofs.Common.{arith, ◌∙◌, ap, sym, refl}
use Rattle.std.proofs.Math.Nat.{le_trans}
use Rattle.posix.specs.Common.{lookup}
use Rattle.posix.proofs.WalkLemmas.{at_child}
use Rattle.pidset.proofs.AnchorLemmas.{turned_none, turned_one}
use Rattle.jobs.specs.Indexes.{child_key}
use Rattle.jobs.proofs.ChildLemmas.{first_kid}
use Rattle.jobs.proofs.anchors.update_anchors_of_children.Goals as goal

pub loop-next-init : goal.loop-next-init
loop-next-init g c =
    let first = first_kid c.args.pid _ _ _ c.requires.kin c.requires.there (c.next_child-next.ensures _) in
    record {
      contents = refl;
      room = refl;
      sizes = refl;
      read = rw first.1 (omega arith);
      no_fewer = omega arith;
      begins = rw first.1 (sym first.0);
      turned = λ q none. turned_none c.args.pid (child_key c.args.parent.now) (g.K.ProcessTable.contents c.args.table.now) c.args.anchors.now.pairs q (rw first.1 at none);
    }

pub update_anchor-requires-clause-there : goal.update_anchor-requires-clause-there
update_anchor-requires-clause-there g c =
    let l = c.loop-next.invariant in
    rw (l.contents, (at_child _ c.requires.kin.rising c.args.pid c.in-Some.child (rw c.in-Some.is at l.begins)).found) refl

pub update_anchor-requires-clause-within : goal.update_anchor-requires-clause-within
update_anchor-requires-clause-within g c = rw (c.loop-next.invariant.sizes, c.loop-next.invariant.contents) c.requires.within

pub loop-next-smaller : goal.loop-next-smaller
loop-next-smaller g c =
    let i = at_child _ c.requires.kin.rising c.args.pid c.in-Some.child (rw c.in-Some.is at c.loop-next.invariant.begins) in
    rw (c.next_child-next-in-Some.ensures _ c.requires.kin c.requires.there, c.in-Some.is, i.left) (omega arith)

pub loop-next-preserved : goal.loop-next-preserved
loop-next-preserved g c =
    let rs = g.K.ProcessTable.contents c.args.table.now in
    let l = c.loop-next.invariant in
    let i = at_child rs c.requires.kin.rising c.args.pid c.in-Some.child (rw c.in-Some.is at l.begins) in
    let put = c.update_anchor.ensures in
    rw (c.next_child-next-in-Some.ensures rs c.requires.kin c.requires.there) record {
      contents = put.contents ∙ l.contents;
      room = put.costs.room ∙ l.room;
      sizes = put.sizes ∙ l.sizes;
      read = let w = put.costs.visits in let r = rw (c.in-Some.is, i.left) at l.read in omega (arith, w, r);
      no_fewer = le_trans l.no_fewer put.costs.no_fewer;
      begins = i.next;
      turned = turned_one c.args.pid c.in-Some.child (child_key c.args.parent.now) rs c.args.anchors.now.pairs c.loop-next.anchors.pairs _ _ i c.in-Some.is (put.moved i.what (ap (lookup c.in-Some.child) l.contents ∙ i.found)) l.turned;
    }
