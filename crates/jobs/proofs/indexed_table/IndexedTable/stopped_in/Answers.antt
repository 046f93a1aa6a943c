use Rattle.std.proofs.Common.{arith, refl}
use Rattle.posix.specs.Common.{is_stopped}
use Rattle.jobs.specs.Indexes.{stopped_key}
use Rattle.jobs.proofs.GroupLemmas.{all_counted, count_begins, count_goes_on, few_counted}
use Rattle.jobs.proofs.indexed_table.IndexedTable.stopped_in.Goals as goal

pub loop-next-init : goal.loop-next-init
loop-next-init g c = rw (← c.self.view_is) (count_begins stopped_key c.args.group _ _ _ c.self.invariant.rising c.self.invariant.numbers c.self.invariant.indexes.stopped.index (rw c.key-under.ensures at c.next-next.ensures.next))

pub overflow_add-count : goal.overflow_add-count
overflow_add-count g c = let few = few_counted stopped_key c.args.group _ _ _ c.self.invariant.rising c.self.invariant.numbers (rw (← c.self.view_is) at c.loop-next.invariant) in omega (arith, few)

pub loop-next-smaller : goal.loop-next-smaller
loop-next-smaller g c = rw (← c.self.view_is) (count_goes_on stopped_key c.args.group c.in-Some.pid _ _ _ _ _ c.self.invariant.rising c.self.invariant.indexes.stopped.index c.in-Some.is (rw c.key-under.ensures at c.next-next-in-Some.ensures.next) (rw (← c.self.view_is) at c.loop-next.invariant)).1

pub loop-next-preserved : goal.loop-next-preserved
loop-next-preserved g c = rw (← c.self.view_is) (count_goes_on stopped_key c.args.group c.in-Some.pid _ _ _ _ _ c.self.invariant.rising c.self.invariant.indexes.stopped.index c.in-Some.is (rw c.key-under.ensures at c.next-next-in-Some.ensures.next) (rw (← c.self.view_is) at c.loop-next.invariant)).0

pub returns : goal.returns
returns g c = rw (← c.self.view_is) (all_counted (λ r. is_stopped r.life) stopped_key (λ r. refl) c.args.group _ _ _ c.in_default.is (rw (← c.self.view_is) at c.loop-next.invariant))
