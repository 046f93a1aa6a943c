use Rattle.std.proofs.Common.{arith}
use Rattle.pidset.proofs.NodeLemmas.{row_behind, row_joined}
use Rattle.pidset.proofs.LinkLemmas.{stands_inside, behind_inside, added}
use Rattle.pidset.proofs.lists.put_in.Goals as goal

pub behind-behind-requires-clause-at_inside : goal.behind-behind-requires-clause-at_inside
behind-behind-requires-clause-at_inside c = stands_inside c.args.nodes.now c.args.list _ (omega (arith, c.requires.list.0)) c.place_for-before.ensures.stands

pub set_behind-requires-clause-at_inside : goal.set_behind-requires-clause-at_inside
set_behind-requires-clause-at_inside c = stands_inside c.args.nodes.now c.args.list _ (omega (arith, c.requires.list.0)) c.place_for-before.ensures.stands

pub set_before-requires-clause-list_inside : goal.set_before-requires-clause-list_inside
set_before-requires-clause-list_inside c = row_behind _ _ _ _ _ _ c.set_behind.ensures c.requires.list.1

pub set_before-requires-clause-at_inside : goal.set_before-requires-clause-at_inside
set_before-requires-clause-at_inside c = λ some. row_behind _ _ _ _ _ _ c.set_behind.ensures (behind_inside c.args.nodes.now c.args.list _ _ c.requires.linked (omega (arith, c.requires.list.0)) c.place_for-before.ensures.stands c.behind-behind.ensures some)

pub set_place-requires : goal.set_place-requires
set_place-requires c = row_joined _ _ _ _ _ _ _ _ _ c.set_behind.ensures c.set_before.ensures c.requires.pid.1

pub returns : goal.returns
returns c = added c.args.nodes.now _ c.args.list c.args.pid c.place_for-before.result c.behind-behind.result c.requires.linked c.requires.list.0 c.requires.list.1 c.requires.pid.0 c.requires.pid.1 c.requires.apart (grind arith) (cc)
