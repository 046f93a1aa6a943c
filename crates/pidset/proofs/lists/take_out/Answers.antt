use Rattle.std.proofs.Common.{arith, sym, inr}
use Rattle.pidset.proofs.NodeLemmas.{row_behind, row_joined}
use Rattle.pidset.proofs.LinkLemmas.{behind_inside, before_inside, list_inside, removed}
use Rattle.pidset.proofs.lists.take_out.Goals as goal

pub set_behind-requires-clause-at_inside : goal.set_behind-requires-clause-at_inside
set_behind-requires-clause-at_inside c = before_inside c.args.nodes.now c.list_at-list.result c.args.pid _ c.requires.linked (grind arith) (inr (sym c.list_at-list.ensures)) c.before-before.ensures

pub set_before-requires-clause-list_inside : goal.set_before-requires-clause-list_inside
set_before-requires-clause-list_inside c = row_behind _ _ _ _ _ _ c.set_behind.ensures (rw c.list_at-list.ensures (list_inside _ c.args.pid c.requires.linked (grind arith) c.requires.pid.0))

pub set_before-requires-clause-at_inside : goal.set_before-requires-clause-at_inside
set_before-requires-clause-at_inside c = λ some. row_behind _ _ _ _ _ _ c.set_behind.ensures (behind_inside c.args.nodes.now c.list_at-list.result c.args.pid _ c.requires.linked (grind arith) (inr (sym c.list_at-list.ensures)) c.behind-behind.ensures some)

pub set_place-requires : goal.set_place-requires
set_place-requires c = row_joined _ _ _ _ _ _ _ _ _ c.set_behind.ensures c.set_before.ensures c.requires.pid.1

pub returns : goal.returns
returns c = removed c.args.nodes.now _ c.list_at-list.result c.args.pid c.before-before.result c.behind-behind.result c.requires.linked (grind arith) (c.requires.pid.0) (cc) (cc) (cc) (cc)
