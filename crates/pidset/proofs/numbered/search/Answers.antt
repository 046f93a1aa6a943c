use Rattle.std.proofs.Common.{sym, ap, ◌∙◌, arith, rules}
use Rattle.std.specs.Option.{option_copied}
use Rattle.std.proofs.lemmas.List.Sorted.{answers_always}
use Rattle.std.proofs.lemmas.Bool.Decides.{nat_tests}
use Rattle.pidset.proofs.ItemLemmas.{point_end, point_first, found_at, point_at}
use Rattle.pidset.proofs.numbered.search.Goals as goal

pub returns-then-greatest-number-clause-absent : goal.returns-then-greatest-number-clause-absent
returns-then-greatest-number-clause-absent g c =
    point_end g.T.Numbered.number c.args.items.now c.requires (g.K.Numbered.number c.args.key.now) c.in-Some.last.now (sym c.last.ensures.value ∙ ap option_copied c.in-Some.is) (grind (arith, nat_tests, c.number-number.ensures, c.number-greatest.ensures, c.if-greatest-number.true))

pub returns-then-number-least-clause-absent : goal.returns-then-number-least-clause-absent
returns-then-number-least-clause-absent g c = point_first g.T.Numbered.number c.args.items.now (g.K.Numbered.number c.args.key.now) c.index-items-0.result c.index-items-0.is (grind (arith, nat_tests, c.number-number.ensures, c.number-least.ensures, c.if-number-least.true))

pub returns-clause-found : goal.returns-clause-found
returns-clause-found g c =
    let facts = c.binary_search_by_key.ensures in
    let f = g.T.Numbered.number in
    rw (← c.number-number.ensures) (found_at f c.args.items.now c.number-number.result _ facts.bound (facts.position f (answers_always _ _ _ (λ f a r h called. search rules))))

pub returns-clause-absent : goal.returns-clause-absent
returns-clause-absent g c =
    let facts = c.binary_search_by_key.ensures in
    let f = g.T.Numbered.number in
    rw (← c.number-number.ensures) (point_at f c.args.items.now c.requires c.number-number.result _ facts.bound (facts.position f (answers_always _ _ _ (λ f a r h called. search rules))))
