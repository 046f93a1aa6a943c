use Rattle.std.proofs.Common.{ap, sym, ◌∙◌}
use Rattle.jobs.specs.Indexes.{least}
use Rattle.jobs.proofs.IndexLemmas.{next_wanted, none_wanted}
use Rattle.jobs.proofs.indexes.Indexes.next_wanted.Goals as goal

pub returns-then-not-has_report : goal.returns-then-not-has_report
returns-then-not-has_report c = λ rs up h. none_wanted c.args.parent c.args.after c.args.options.0 rs c.args.self.now up h (sym c.has_report.ensures ∙ c.if-not-has_report.true)

pub returns : goal.returns
returns c = λ rs up h.
    c.lesser-2.ensures ∙ ap (λ o. least o c.next_of_sort-continued.result) c.lesser.ensures
    ∙ next_wanted c.args.parent c.args.after c.args.options.0 rs _ _ _ up (rw c.contains-ends.ensures at (c.next_of_sort-ended.ensures rs up h)) (rw c.contains-stops.ensures at (c.next_of_sort-stopped.ensures rs up h)) (rw c.contains-continues.ensures at (c.next_of_sort-continued.ensures rs up h))
