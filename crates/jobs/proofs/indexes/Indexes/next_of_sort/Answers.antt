use Rattle.jobs.proofs.IndexLemmas.{next_sorted, none_sorted}
use Rattle.jobs.proofs.indexes.Indexes.next_of_sort.Goals as goal

pub returns-then-is_wanted : goal.returns-then-is_wanted
returns-then-is_wanted c = λ rs up h. next_sorted c.args.parent c.args.sort c.args.after rs c.args.self.now c.next.result c.args.is_wanted c.if-is_wanted.true up h (rw c.sorted_key.ensures at c.next.ensures.next)

pub returns-else-is_wanted : goal.returns-else-is_wanted
returns-else-is_wanted c = λ rs up h. none_sorted c.args.sort c.args.after c.args.parent rs c.args.is_wanted c.if-is_wanted.false
