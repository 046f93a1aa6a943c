use Rattle.std.proofs.Common.{◌≢◌, ◌≤◌, ◌∙◌, ℕ, arith, sym}
use Rattle.std.proofs.lemmas.Bool.{eqb-true, eqb-false, ltb-true, ltb-false}
use Rattle.audit.specs.Records.{record_in}
use Rattle.audit.proofs.FieldLemmas.{read_was}
use Rattle.audit.proofs.GiveLemmas.{nobody_given, given_to_none, given_to_list}
use Rattle.audit.proofs.children.give_on.Goals as goal

-- who isn't process 1
two_up : (n : ℕ) → 1 ≤ n → n ≢ 1 → 2 ≤ n
two_up n one other = omega (arith, one, other)

pub returns-then-eq-2 : goal.returns-then-eq-2
returns-then-eq-2 c =
    nobody_given c.args.pid c.args.heir c.args.records.now.entries c.requires.linked (two_up c.args.pid c.requires.pid (eqb-false c.args.pid 1 (sym c.eq.ensures ∙ c.if-eq.false)))
    (sym (eqb-true c.args.first_child 0 (sym c.eq-2.ensures ∙ c.if-eq-2.true)) ∙ c.requires.first_child)

pub returns-then-has_list : goal.returns-then-has_list
returns-then-has_list c =
    let other : c.args.pid ≢ 1 = eqb-false c.args.pid 1 (sym c.eq.ensures ∙ c.if-eq.false) in
    let high : 2 ≤ c.args.heir = ltb-true 1 c.args.heir (sym c.has_list.ensures ∙ c.if-has_list.true) in
    given_to_list c.args.pid c.args.heir c.args.first_child c.give_all-last.result c.first_by-behind.result c.args.records.now.entries c.give_all-last.new.records.entries c.relink.new.records.entries c.join.new.records.entries
    c.requires.linked (two_up c.args.pid c.requires.pid other) high (c.requires.other other) (c.requires.heir high) (eqb-false c.args.first_child 0 (sym c.eq-2.ensures ∙ c.if-eq-2.false))
    c.give_all-last.ensures (read_was (λ r. r.first) (record_in c.give_all-last.new.records.entries) c.args.heir c.first_by-behind.result c.relink.result c.first_by-behind.ensures c.relink.ensures.was) c.relink.ensures.is c.join.ensures

pub returns-else-has_list : goal.returns-else-has_list
returns-else-has_list c =
    given_to_none c.args.pid c.args.heir c.args.first_child c.give_all-last.result c.args.records.now.entries c.give_all-last.new.records.entries c.requires.linked
    (two_up c.args.pid c.requires.pid (eqb-false c.args.pid 1 (sym c.eq.ensures ∙ c.if-eq.false))) (ltb-false 1 c.args.heir (sym c.has_list.ensures ∙ c.if-has_list.false)) c.give_all-last.ensures
