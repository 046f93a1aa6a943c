use Rattle.std.proofs.Common.{◌∙◌, refl, sym}
use Rattle.jobs.proofs.IndexLemmas.{indexes_adopted, indexes_silent}
use Rattle.jobs.proofs.indexes.Indexes.reparent.Goals as goal

pub returns-then-not-has_report-clause-indexes : goal.returns-then-not-has_report-clause-indexes
returns-then-not-has_report-clause-indexes c = λ rs h. indexes_silent c.args.from c.args.to c.requires rs c.args.self.now (sym c.has_report.ensures ∙ c.if-not-has_report.true) h

pub returns-clause-indexes : goal.returns-clause-indexes
returns-clause-indexes c = λ rs h.
    indexes_adopted c.args.from c.args.to c.requires rs c.args.self.now _ c.rekey.new.self c.rekey-2.new.self (rw (c.sorted_key.ensures, c.sorted_key-2.ensures) at c.rekey.ensures) (rw (c.sorted_key-3.ensures, c.sorted_key-4.ensures) at c.rekey-2.ensures) (rw (c.sorted_key-5.ensures, c.sorted_key-6.ensures) at c.rekey-3.ensures) refl refl refl refl h
