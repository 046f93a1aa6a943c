use Rattle.std.proofs.Common.{◌≡◌, ◌∙◌, ◌==◌, ◌&&◌, ◌||◌, ℕ, sym, ap, subst, arith, List, length, insert, map}
use Rattle.pidset.specs.declared.index.Pair.{Pair}
use Rattle.pidset.specs.Numbers.{IsInsertionPoint}
use Rattle.pidset.specs.Indexes.{ArePairs, IndexView, IsPair, is_pair_in, pair_number}
use Rattle.pidset.proofs.NumberLemmas.{in_at}
use Rattle.pidset.proofs.PairLemmas.{IsPut, put_at_point, child_is, child_there}
use Rattle.pidset.proofs.index.Index.insert.Goals as goal

put : (k p at : ℕ) (new : Pair) (items pairs : List Pair) → IsPair (record { key = k; pid = p }) → ArePairs pairs → new ≡ record { key = k; pid = p } → items ≡ pairs → IsInsertionPoint (map pair_number items) (pair_number new) at → IsPut (record { key = k; pid = p }) at pairs
put k p at new items pairs i h is same point = put_at_point (record { key = k; pid = p }) pairs at i h (rw (same, is) at point)

pub insert-requires-clause-room : goal.insert-requires-clause-room
insert-requires-clause-room c =
    let put = put c.args.key c.args.pid c.in-Err.at _ _ _ (c.requires.pid, c.keyed-pair.ensures.range.0, c.keyed-pair.ensures.range.1) c.self.invariant c.keyed-pair.ensures.is c.as_slice.ensures c.in-Err.ensures.absent in
    let fits = c.requires.room (sym (ap (λ (s : IndexView). is_pair_in c.args.key c.args.pid s.pairs) c.self.view_is) ∙ put.absent) in
    let long = ap (λ (s : IndexView). length s.pairs) c.self.view_is in
    let room = ap (λ (s : IndexView). s.room) c.self.view_is in
    omega (arith, fits, long, room)

pub invariant_of-self : goal.invariant_of-self
invariant_of-self c =
    let put = put c.args.key c.args.pid c.in-Err.at _ _ _ (c.requires.pid, c.keyed-pair.ensures.range.0, c.keyed-pair.ensures.range.1) c.self.invariant c.keyed-pair.ensures.is c.as_slice.ensures c.in-Err.ensures.absent in
    subst ArePairs (sym (c.insert.ensures.items ∙ ap (λ x. insert c.self.inside.pairs.items c.in-Err.at x) c.keyed-pair.ensures.is)) put.once

pub returns-in-Err-clause-pairs : goal.returns-in-Err-clause-pairs
returns-in-Err-clause-pairs c = λ p d.
    let put = put c.args.key c.args.pid c.in-Err.at _ _ _ (c.requires.pid, c.keyed-pair.ensures.range.0, c.keyed-pair.ensures.range.1) c.self.invariant c.keyed-pair.ensures.is c.as_slice.ensures c.in-Err.ensures.absent in
    ap (is_pair_in p d) (c.insert.ensures.items ∙ ap (λ x. insert c.self.inside.pairs.items c.in-Err.at x) c.keyed-pair.ensures.is) ∙ put.children p d ∙ ap (λ (s : IndexView). p == c.args.key && d == c.args.pid || is_pair_in p d s.pairs) c.self.view_is

pub returns-in-Err-clause-rising : goal.returns-in-Err-clause-rising
returns-in-Err-clause-rising c = invariant_of-self c

pub returns-in_default-clause-pairs : goal.returns-in_default-clause-pairs
returns-in_default-clause-pairs c = λ p d.
    let items = c.self.inside.pairs.items in
    let at = rw (c.as_slice.ensures, c.keyed-pair.ensures.is) at c.in_default.ensures.found in
    let here = child_is items c.self.invariant.within c.args.key c.args.pid c.keyed-pair.ensures.range ∙ in_at (map pair_number items) _ c.in_default.field-0 at in
    child_there p c.args.key d c.args.pid c.args.self.now.pairs (sym (ap (λ (s : IndexView). is_pair_in c.args.key c.args.pid s.pairs) c.self.view_is) ∙ here)
