use Rattle.std.proofs.Common.{◌≤◌, arith, sym, ◌∙◌}
use Rattle.std.proofs.lemmas.Bool.{ltb-true, ltb-false}
use Rattle.audit.specs.Records.{record_in}
use Rattle.audit.proofs.FieldLemmas.{read_was}
use Rattle.audit.proofs.ChildLemmas.{behind_first, given_unlisted, given_first}
use Rattle.audit.proofs.children.put_in.Goals as goal

pub returns-then-not-has_list : goal.returns-then-not-has_list
returns-then-not-has_list c =
    let apart = c.requires.apart in
    given_unlisted c.args.pid c.args.parent c.args.records.now.entries c.relink.new.records.entries c.requires.linked c.requires.pid c.requires.there (omega (arith, apart))
    (ltb-false 1 c.args.parent (sym c.has_list.ensures ∙ c.if-not-has_list.true)) c.relink.ensures.is

pub returns : goal.returns
returns c =
    let two : 2 ≤ c.args.parent = ltb-true 1 c.args.parent (sym c.has_list.ensures ∙ c.if-not-has_list.false) in
    given_first c.args.pid c.args.parent c.first_by-behind.result c.args.records.now.entries c.relink-2.new.records.entries c.relink-3.new.records.entries c.relink-4.new.records.entries c.requires.linked c.requires.pid c.requires.there c.requires.apart two
    (c.requires.parent two) (read_was (λ r. r.first) (record_in c.args.records.now.entries) c.args.parent c.first_by-behind.result c.relink-2.result c.first_by-behind.ensures c.relink-2.ensures.was ∙ sym (behind_first (record_in c.args.records.now.entries) c.args.parent)) c.relink-2.ensures.is c.relink-3.ensures.is c.relink-4.ensures.is
