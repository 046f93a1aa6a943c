use Rattle.std.proofs.Common.{◌∙◌, ◌==◌, ◌&&◌, not, sym, ap, subst, filter, find}
use Rattle.std.specs.Option.{IsSome}
use Rattle.pidset.specs.declared.index.Pair.{Pair}
use Rattle.pidset.specs.Indexes.{ArePairs, IndexView, is_pair_in, pair_number}
use Rattle.pidset.proofs.PairLemmas.{child_taken, child_found, pairs_taken}
use Rattle.pidset.proofs.index.Index.remove.Goals as goal

pub invariant_of-self : goal.invariant_of-self
invariant_of-self c = subst ArePairs (sym c.take_out.ensures.items) (pairs_taken _ _ c.self.invariant)

pub returns-clause-rising : goal.returns-clause-rising
returns-clause-rising c = invariant_of-self c

pub returns-clause-pairs : goal.returns-clause-pairs
returns-clause-pairs c = λ p d.
    let items = c.self.inside.pairs.items in
    let gone : Pair = record { key = c.args.key; pid = c.args.pid } in
    ap (is_pair_in p d) (c.take_out.ensures.items ∙ ap (λ x. filter (λ y. not (pair_number y == pair_number x)) items) c.keyed-pair.ensures.is)
    ∙ child_taken gone items c.keyed-pair.ensures.range c.self.invariant.within p d
    ∙ ap (λ (s : IndexView). not (p == c.args.key && d == c.args.pid) && is_pair_in p d s.pairs) c.self.view_is

pub returns-clause-left : goal.returns-clause-left
returns-clause-left c = λ e.
    let items = c.self.inside.pairs.items in
    let gone : Pair = record { key = c.args.key; pid = c.args.pid } in
    let some = sym (child_found gone items c.keyed-pair.ensures.range c.self.invariant.within) ∙ ap (λ (s : IndexView). is_pair_in c.args.key c.args.pid s.pairs) c.self.view_is ∙ e in
    c.take_out.ensures.left (subst (λ x. IsSome (find (λ y. pair_number y == pair_number x) items)) (sym c.keyed-pair.ensures.is) some)
