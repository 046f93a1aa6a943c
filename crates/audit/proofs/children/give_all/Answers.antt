use Rattle.std.proofs.Common.{◌==◌, ◌∙◌, sym}
use Rattle.std.proofs.lemmas.Bool.{eqb-true, eqb-false, not-true, not-false}
use Rattle.audit.specs.Records.{record_in}
use Rattle.audit.proofs.FieldLemmas.{read_was}
use Rattle.audit.proofs.GiveLemmas.{none_yet, next_given, all_given}
use Rattle.audit.proofs.children.give_all.Goals as goal

pub loop-last-init : goal.loop-last-init
loop-last-init c = none_yet c.args.pid c.args.heir c.args.first_child c.args.records.now.entries c.relink.new.records.entries c.requires.linked c.requires.pid c.requires.first_child c.relink.ensures.is

pub loop-last-preserved : goal.loop-last-preserved
loop-last-preserved c =
    (next_given c.args.pid c.args.heir c.loop-last.last c.loop-last.child c.behind_by-child.result c.args.records.now.entries c.loop-last.records.entries c.relink-in-loop-last.new.records.entries c.requires.pid c.requires.other
    (eqb-false c.loop-last.child 0 (not-true (c.loop-last.child == 0) (sym c.ne.ensures ∙ c.loop-last-test.true))) (read_was (λ r. r.behind) (record_in c.loop-last.records.entries) c.loop-last.child c.behind_by-child.result c.relink-in-loop-last.result c.behind_by-child.ensures c.relink-in-loop-last.ensures.was) c.loop-last.invariant c.relink-in-loop-last.ensures.is).0

pub loop-last-smaller : goal.loop-last-smaller
loop-last-smaller c =
    (next_given c.args.pid c.args.heir c.loop-last.last c.loop-last.child c.behind_by-child.result c.args.records.now.entries c.loop-last.records.entries c.relink-in-loop-last.new.records.entries c.requires.pid c.requires.other
    (eqb-false c.loop-last.child 0 (not-true (c.loop-last.child == 0) (sym c.ne.ensures ∙ c.loop-last-test.true))) (read_was (λ r. r.behind) (record_in c.loop-last.records.entries) c.loop-last.child c.behind_by-child.result c.relink-in-loop-last.result c.behind_by-child.ensures c.relink-in-loop-last.ensures.was) c.loop-last.invariant c.relink-in-loop-last.ensures.is).1

pub returns : goal.returns
returns c =
    all_given c.args.pid c.args.heir c.args.first_child c.loop-last.last c.loop-last.child (record_in c.args.records.now.entries) (record_in c.loop-last.records.entries) c.requires.pid c.requires.other c.requires.first_child
    (eqb-true c.loop-last.child 0 (not-false (c.loop-last.child == 0) (sym c.ne.ensures ∙ c.loop-last-test.false))) c.loop-last.invariant
