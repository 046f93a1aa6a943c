use Rattle.std.proofs.Common.{◌≡◌, ◌==◌, ◌∙◌, Some, cond, sym, ap, is_some}
use Rattle.audit.specs.declared.records.Record.{Record}
use Rattle.audit.specs.Records.{record_in}
use Rattle.audit.specs.Children.{linked}
use Rattle.audit.proofs.RecordLemmas.{written, unwritten}
use Rattle.audit.proofs.records.relink.Goals as goal

pub returns-clause-is : goal.returns-clause-is
returns-clause-is c =
    let r : Record = c.in-Some.record.now in
    let found : record_in c.args.records.now.entries c.number.result ≡ Some r = sym c.in-Some.ensures.value in
    let wrote = c.get_mut.follows.holds c.relink.new.self in
    written c.args.pid c.number.result (linked c.args.link) c.args.records.now.entries _ r c.number.ensures.value found
    (λ q. (wrote.3 (ap is_some found)).0 q ∙ ap (λ v. cond (c.number.result == q) (Some v) (record_in c.args.records.now.entries q)) c.relink.ensures) wrote.1

pub returns-in_default-clause-is : goal.returns-in_default-clause-is
returns-in_default-clause-is c = unwritten c.args.pid c.number.result (linked c.args.link) c.args.records.now.entries _ c.number.ensures.value (sym c.in_default.ensures.value) (ap (λ m. m.entries) c.get_mut.follows.holds-at-none)
