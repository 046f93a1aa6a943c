-- Who is in a list of numbers.
use Rattle.std.proofs.Common.{◌≡◌, ◌≢◌, ℕ, Bool, true, false, not, ◌&&◌, ◌||◌, refl, ap, sym, ◌∙◌, subst, List, [], ◌∷◌, ◌++◌, filter, ◌==◌, inl, inr}
use Rattle.std.proofs.Math.Bool.{and-false, or-false}
use Rattle.std.specs.List.{AllByRecursion}
use Rattle.std.proofs.lemmas.Bool.{eqb-true, eqb-false, eq-eqb, ne_eqb, not-true, and_parts, or_left, or_parts, or_cases}
use Rattle.std.proofs.lemmas.List.Folds.{list_any-append}
use Rattle.std.proofs.lemmas.Map.Views.{any-filter_same}
use Rattle.posix.specs.Common.{is_in, without}

-- ---- lists made of others

-- one list after another
pub in_append : (q : ℕ) (xs ys : List ℕ) → is_in q (xs ++ ys) ≡ (is_in q xs || is_in q ys)
unfolding is_in
in_append q xs ys = list_any-append (λ n. n == q) xs ys

-- those that pass a test
pub in_filter : (t : ℕ → Bool) (q : ℕ) (ns : List ℕ) → is_in q (filter t ns) ≡ (t q && is_in q ns)
unfolding is_in
in_filter t q ns = any-filter_same (λ n. n == q) t (t q) (λ n e. ap t (eqb-true n q e)) ns

-- what is left without p
pub in_without : (q p : ℕ) (ns : List ℕ) → is_in q (without p ns) ≡ (not (q == p) && is_in q ns)
unfolding without
in_without q p ns = in_filter (λ n. not (n == p)) q ns

-- p itself is gone
pub out_of : (p : ℕ) (ns : List ℕ) → is_in p (without p ns) ≡ false
out_of p ns = in_without p p ns ∙ ap (λ b. not b && is_in p ns) (eq-eqb p p refl)

-- others stay
pub others_stay : (p q : ℕ) (ns : List ℕ) → q ≢ p → is_in q (without p ns) ≡ is_in q ns
others_stay p q ns ne = in_without q p ns ∙ ap (λ b. not b && is_in q ns) (ne_eqb q p ne)

-- who is out stays out
pub still_out : (p q : ℕ) (ns : List ℕ) → is_in q ns ≡ false → is_in q (without p ns) ≡ false
still_out p q ns e = in_without q p ns ∙ ap (λ b. not (q == p) && b) e ∙ and-false (not (q == p))

-- who is in what is left is another, and was there
pub record IsOther (p q : ℕ) (ns : List ℕ) : Type 0 where
  pub apart : q ≢ p
  pub among : is_in q ns ≡ true

pub is_other : (p q : ℕ) (ns : List ℕ) → is_in q (without p ns) ≡ true → IsOther p q ns
is_other p q ns e = let k = and_parts _ _ (sym (in_without q p ns) ∙ e) in record { apart = eqb-false q p (not-true _ k.0); among = k.1 }

-- ---- the first of a list, and the rest

-- the first is in a list
pub in_first : (p : ℕ) (ps : List ℕ) → is_in p (p ∷ ps) ≡ true
unfolding is_in
in_first p ps = or_left _ _ (eq-eqb p p refl)

-- another is where it is in the rest
pub in_rest : (q p : ℕ) (ps : List ℕ) → p ≢ q → is_in q (p ∷ ps) ≡ is_in q ps
unfolding is_in
in_rest q p ps ne = ap (λ b. b || is_in q ps) (ne_eqb p q ne)

-- who isn't in a list isn't its first
pub apart_first : (q p : ℕ) (ps : List ℕ) → is_in q (p ∷ ps) ≡ false → q ≢ p
unfolding is_in
apart_first q p ps e same = eqb-false p q (or_parts _ _ e).0 (sym same)

-- nor in its rest
pub apart_rest : (q p : ℕ) (ps : List ℕ) → is_in q (p ∷ ps) ≡ false → is_in q ps ≡ false
unfolding is_in
apart_rest q p ps e = (or_parts (p == q) _ e).1

-- an empty list has no member
pub in_none : (q : ℕ) → is_in q [] ≡ true → ⊥
unfolding is_in
in_none q e = absurd (cc)

-- and one in a list of one
pub in_one : (q p : ℕ) → is_in q (p ∷ []) ≡ true → q ≡ p
unfolding is_in
in_one q p e = elim (or_cases (p == q) false e) [ inl t ↦ sym (eqb-true p q t) | inr false_true ↦ absurd (cc) ]

-- what all of a list have, each has
pub each : (P : ℕ → Type 0) (ps : List ℕ) → AllByRecursion P ps → (q : ℕ) → is_in q ps ≡ true → P q
unfolding is_in
each P [] h q e = absurd (cc)
each P (p ∷ ps) h q e = elim (or_cases (p == q) _ e) [ inl t ↦ subst P (eqb-true p q t) h.0 | inr k ↦ each P ps h.1 q k ]

-- ---- a list followed by p

pub in_last : (q p : ℕ) (ps : List ℕ) → is_in q (ps ++ p ∷ []) ≡ (is_in q ps || (p == q))
unfolding is_in
in_last q p ps = in_append q ps (p ∷ []) ∙ ap (λ b. is_in q ps || b) (or-false (p == q))
