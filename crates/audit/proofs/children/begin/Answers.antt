use Rattle.std.proofs.Common.{◌≡◌, ◌==◌, Some, None, cond, ap, sym, ◌∙◌, refl}
use Rattle.std.proofs.lemmas.Bool.{ltb-true, ltb-false}
use Rattle.audit.specs.declared.records.Record.{Record}
use Rattle.audit.specs.Records.{record_in}
use Rattle.audit.proofs.ChildLemmas.{begun_unlisted, begun_away, begun_anew}
use Rattle.posix.proofs.ResultLemmas.{on_err}
use Rattle.audit.proofs.children.begin.Goals as goal

pub returns-in_err-insert-clause-err : goal.returns-in_err-insert-clause-err
returns-in_err-insert-clause-err c = on_err c.from_residual.result (c.in_err-insert.ensures.err ∙ c.relink.ensures.none c.in_default.is)

pub returns-in_default-clause-ok : goal.returns-in_default-clause-ok
returns-in_default-clause-ok c =
    let old = c.args.records.now.entries in
    let same : c.relink.new.records.entries ≡ old = c.relink.ensures.none c.in_default.is in
    let none : record_in old c.number.result ≡ None = ap (record_in old) c.number.ensures.value ∙ sym c.relink.ensures.was ∙ c.in_default.is in
    let r : Record = record { parent = 0; before = 0; behind = 0; first = 0; state = c.newborn.result } in
    begun_anew c.args.pid c.number.result r old c.insert.new.self.entries c.requires.linked c.number.ensures.value none (rw c.newborn.ensures refl)
    (λ q. (c.in_ok-insert.ensures.updates).0 q ∙ ap (λ es. cond (c.number.result == q) (Some r) (record_in es q)) same)

pub returns-then-has_list-clause-ok : goal.returns-then-has_list-clause-ok
returns-then-has_list-clause-ok c =
    begun_away c.args.pid c.in-Some.was c.args.records.now.entries c.relink.new.records.entries c.join.new.records.entries c.requires.linked c.requires.pid (sym c.relink.ensures.was ∙ c.in-Some.is)
    (ltb-true 1 c.in-Some.was.parent (sym c.has_list.ensures ∙ c.if-has_list.true)) c.relink.ensures.is c.join.ensures

pub returns-else-has_list-clause-ok : goal.returns-else-has_list-clause-ok
returns-else-has_list-clause-ok c =
    begun_unlisted c.args.pid c.in-Some.was c.args.records.now.entries c.relink.new.records.entries c.requires.linked c.requires.pid (sym c.relink.ensures.was ∙ c.in-Some.is)
    (ltb-false 1 c.in-Some.was.parent (sym c.has_list.ensures ∙ c.if-has_list.false)) c.relink.ensures.is
