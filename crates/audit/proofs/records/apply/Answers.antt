use Rattle.std.proofs.Common.{◌≡◌, ◌∙◌, Some, sym, ap, is_some, subst}
use Rattle.audit.specs.declared.records.Record.{Record}
use Rattle.audit.specs.Records.{IsAfter, record_in}
use Rattle.audit.specs.Children.{KeepLinks, in_state}
use Rattle.audit.proofs.RecordLemmas.{written, life_changed, unborn_changed}
use Rattle.audit.proofs.FieldLemmas.{links_stay, links_same}
use Rattle.audit.proofs.records.apply.Goals as goal

pub returns-clause-links : goal.returns-clause-links
returns-clause-links c =
    let r : Record = c.in-Some.record.now in
    let found : record_in c.args.records.now.entries c.number.result ≡ Some r = sym c.in-Some.ensures.value in
    let wrote = c.get_mut.follows.holds (in_state c.after-record.result r) in
    links_stay c.args.pid c.after-record.result c.args.records.now.entries _ (written c.args.pid c.number.result (in_state c.after-record.result) c.args.records.now.entries _ r c.number.ensures.value found (wrote.3 (ap is_some found)).0 wrote.1)

pub returns-clause-kept : goal.returns-clause-kept
returns-clause-kept c =
    let r : Record = c.in-Some.record.now in
    let found : record_in c.args.records.now.entries c.number.result ≡ Some r = sym c.in-Some.ensures.value in
    let wrote = c.get_mut.follows.holds (in_state c.after-record.result r) in
    life_changed c.args.change c.args.pid c.after-record.result c.args.records.now.entries _ r (ap (record_in c.args.records.now.entries) (sym c.number.ensures.value) ∙ found)
    (written c.args.pid c.number.result (in_state c.after-record.result) c.args.records.now.entries _ r c.number.ensures.value found (wrote.3 (ap is_some found)).0 wrote.1) c.after-record.ensures

pub returns-in_default-clause-links : goal.returns-in_default-clause-links
returns-in_default-clause-links c = subst (λ es. KeepLinks (record_in c.args.records.now.entries) (record_in es)) (sym (ap (λ m. m.entries) c.get_mut.follows.holds-at-none)) (links_same (record_in c.args.records.now.entries))

pub returns-in_default-clause-kept : goal.returns-in_default-clause-kept
returns-in_default-clause-kept c =
    subst (λ es. IsAfter c.args.change c.args.pid c.args.records.now.entries es) (sym (ap (λ m. m.entries) c.get_mut.follows.holds-at-none))
    (unborn_changed c.args.change c.args.pid c.args.records.now.entries (ap (record_in c.args.records.now.entries) (sym c.number.ensures.value) ∙ sym c.in_default.ensures.value))
