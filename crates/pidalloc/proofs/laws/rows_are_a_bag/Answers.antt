use Rattle.pidalloc.proofs.BagLemmas.{counts, next_after, last_after}
use Rattle.pidalloc.proofs.laws.rows_are_a_bag.Goals as goal

pub returns-clause-counts : goal.returns-clause-counts
returns-clause-counts c = counts

pub returns-clause-next : goal.returns-clause-next
returns-clause-next c = next_after

pub returns-clause-last : goal.returns-clause-last
returns-clause-last c = last_after
