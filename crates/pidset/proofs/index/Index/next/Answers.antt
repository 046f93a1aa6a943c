use Rattle.std.proofs.Common.{◌≡◌, ℕ, sym, ◌∙◌, ap, subst, List, [], ◌∷◌, Option, filter, slice_get, nat_lt, Some, None}
use Rattle.std.specs.Option.{option_copied}
use Rattle.std.proofs.lemmas.Bool.{eq-eqb, ne_eqb}
use Rattle.pidset.specs.declared.index.Pair.{Pair}
use Rattle.pidset.specs.Indexes.{ArePairs, IndexView, IsNextPair, pair_number}
use Rattle.pidset.proofs.PairLemmas.{pid_under, next_is}
use Rattle.pidset.proofs.index.Index.next.Goals as goal
use Rattle.pidset.proofs.index.Index.next.Goals.{in_default-via-in-Some+else-pair-key, in_default-via-in_default}

next_of_none : (k n : ℕ) (pairs : List Pair) → ArePairs pairs → slice_get pairs 0 ≡ None → IsNextPair k n pairs None
next_of_none k n [] h e = next_is k n [] h
next_of_none k n (x ∷ xs) h e = absurd (cc)

-- what follows from the first pair above
told : (k n : ℕ) (from : Pair) (items pairs : List Pair) (set : IndexView) (first : Option Pair) → ArePairs pairs → from ≡ record { key = k; pid = n } → items ≡ pairs → pairs ≡ set.pairs
    → first ≡ slice_get (filter (λ y. nat_lt (pair_number from) (pair_number y)) items) 0 → IsNextPair k n set.pairs (pid_under k first)
told k n from items pairs set first h is same view read = rw (read, is, same, ← view) (next_is k n pairs h)

pub returns-in_err-first-clause-next : goal.returns-in_err-first-clause-next
returns-in_err-first-clause-next c =
    let none : slice_get c.self.inside.pairs.items 0 ≡ None =
    sym (ap (λ xs. slice_get xs 0) c.as_slice.ensures) ∙ sym c.first.ensures.value ∙ ap option_copied c.in_err-first.was in
    subst (λ o. IsNextPair c.args.key c.args.after c.args.self.now.pairs o) (sym c.from_residual.ensures)
    (subst (λ (s : IndexView). IsNextPair c.args.key c.args.after s.pairs None) c.self.view_is (next_of_none c.args.key c.args.after c.self.inside.pairs.items c.self.invariant none))

pub returns-in-Some-clause-next : goal.returns-in-Some-clause-next
returns-in-Some-clause-next c =
    let t = told c.args.key c.args.after _ _ _ c.args.self.now (Some c.in-Some.pair.now) c.self.invariant c.keyed-from.ensures.is c.as_slice-2.ensures (ap (λ (s : IndexView). s.pairs) c.self.view_is) (sym (ap option_copied c.in-Some.is) ∙ c.next_above.ensures) in
    rw (eq-eqb c.in-Some.pair.now.key c.args.key c.if-pair-key.true) at t

pub returns-in_default-clause-next : goal.returns-in_default-clause-next
returns-in_default-clause-next c =
    let t = told c.args.key c.args.after _ _ _ c.args.self.now (option_copied c.next_above.result) c.self.invariant c.keyed-from.ensures.is c.as_slice-2.ensures (ap (λ (s : IndexView). s.pairs) c.self.view_is) c.next_above.ensures in
    let P : Option Pair → Type 0 = λ o. IsNextPair c.args.key c.args.after c.args.self.now.pairs (pid_under c.args.key o) in
    elim c.in_default.branch [
      | in_default-via-in-Some+else-pair-key w ↦ let s = subst P (ap option_copied w.in-Some.is) t in rw (ne_eqb w.in-Some.pair.now.key c.args.key w.if-pair-key.false) at s
      | in_default-via-in_default w ↦ subst P (ap option_copied w.in_default.is) t
    ]
