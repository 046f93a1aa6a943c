use Rattle.std.proofs.Common.{arith, length, sym, ap, ◌∙◌, ◌<◌}
use Rattle.std.proofs.lemmas.Bool.Decides.{nat_tests}
use Rattle.text.specs.EventTexts.{Progress}
use Rattle.text.proofs.ReaderLemmas.{meets_fault, meets_no_last, meets_last}
use Rattle.posix.proofs.ResultLemmas.{none_from}
use Rattle.text.proofs.event_reader.EventReader.end_text.Goals as goal

pub returns-then-is_some-clause-meets : goal.returns-then-is_some-clause-meets
returns-then-is_some-clause-meets c = rw (← c.self.view_is) (λ text h. meets_fault text _ (sym c.is_some.ensures ∙ c.if-is_some.true) h)

pub returns-then-is_empty-clause-meets : goal.returns-then-is_empty-clause-meets
returns-then-is_empty-clause-meets c =
    let fine = none_from c.self.inside.fault (sym c.is_some.ensures ∙ c.if-is_some.false) in
    rw (← c.self.view_is) (λ text h. meets_no_last text _ fine (grind (arith, nat_tests)) h)

pub returns-clause-meets : goal.returns-clause-meets
returns-clause-meets c = λ text h.
    let fine = ap (λ (p : Progress). p.reading.fault) (sym c.self.view_is) ∙ none_from c.self.inside.fault (sym c.is_some.ensures ∙ c.if-is_some.false) in
    let some : 0 < length c.self.inside.partial.items = grind (arith, nat_tests) in
    meets_last text c.args.self.now c.end_line.new.self fine (rw (← c.self.view_is) some) c.end_line.ensures.ends h
