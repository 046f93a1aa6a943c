use Rattle.std.proofs.Common.{arith, sym, refl, inl, ◌∙◌}
use Rattle.pidset.proofs.RowLemmas.{row_kept}
use Rattle.pidset.proofs.LinkLemmas.{before_inside}
use Rattle.pidset.proofs.lists.move_all.Goals as goal

pub put_in-requires-clause-list : goal.put_in-requires-clause-list
put_in-requires-clause-list c = (c.requires.to.0, row_kept c.args.nodes.now c.take_out.new.nodes c.args.to (c.take_out.ensures.sizes ∙ c.loop-from.invariant.sizes) c.requires.to.1)

pub put_in-requires-clause-pid : goal.put_in-requires-clause-pid
put_in-requires-clause-pid c = (grind arith, row_kept c.loop-from.nodes c.take_out.new.nodes c.loop-from.next c.take_out.ensures.sizes (before_inside c.loop-from.nodes c.args.from 0 c.loop-from.next c.loop-from.invariant.linked (omega (arith, c.requires.from.0)) (inl refl) (sym c.loop-from.invariant.next) (grind arith)))

pub before-next-requires-in-loop-from-clause-list_inside : goal.before-next-requires-in-loop-from-clause-list_inside
before-next-requires-in-loop-from-clause-list_inside c = row_kept c.args.nodes.now c.put_in.new.nodes c.args.from (c.put_in.ensures.sizes ∙ c.take_out.ensures.sizes ∙ c.loop-from.invariant.sizes) c.requires.from.1
