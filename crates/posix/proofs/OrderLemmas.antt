-- Orders of places: each number once, and no more than there are records.
use Rattle.std.proofs.Common.{◌≡◌, ℕ, ◌+◌, ◌≤◌, true, false, refl, ap, sym, ◌∙◌, arith, subst, List, [], ◌∷◌, ◌++◌, length, Some, ◌==◌, slice_get, inl, inr}
use Rattle.std.specs.Option.{IsSome}
use Rattle.std.proofs.lemmas.Bool.{eqb-true, eq-eqb, ne_eqb, or_from, or_cases, cases_Bool}
use Rattle.posix.specs.Common.{Process, IsRising, lookup, pids, State, is_in, without, lose_place, go_last, IsRegular, IsPlaced, IsDistinct}
use Rattle.posix.proofs.TableLemmas.{Above}
use Rattle.posix.proofs.MemberLemmas.{in_last, apart_first, apart_rest, out_of}
use Rattle.posix.proofs.RegularLemmas.{regular_with, regular_lose}

-- ---- there are no more places than records

-- who has no place loses none
pub without_absent : (p : ℕ) (o : List ℕ) → is_in p o ≡ false → without p o ≡ o
unfolding is_in without
without_absent p [] e = refl
without_absent p (x ∷ xs) e = grind (arith, without_absent p xs)

-- of distinct numbers just one is lost
pub one_less : (p : ℕ) (o : List ℕ) → IsDistinct o → is_in p o ≡ true → length (without p o) + 1 ≡ length o
unfolding is_in without IsDistinct
one_less p [] d e = absurd (cc)
one_less p (x ∷ xs) d e = grind (arith, λ (i : x ≡ p). without_absent p xs (subst (λ n. is_in n xs ≡ false) i d.0), one_less p xs d.1, eqb-true x p)

-- and no more in any case
pub one_less_at_most : (p : ℕ) (o : List ℕ) → IsDistinct o → length o ≤ length (without p o) + 1
one_less_at_most p o d = elim (cases_Bool (is_in p o)) [
  | inl there ↦ let l = one_less p o d there in omega (arith, l)
  | inr out ↦ let l = ap length (without_absent p o out) in omega (arith, l)
]

-- who is placed is found
pub placed_some : (rs : List Process) (p : ℕ) → IsPlaced rs p → IsSome (lookup p rs)
placed_some rs p h = rw h.found refl

-- a number below those of all is none of them
out_below : (n : ℕ) (rs : List Process) → Above n rs → is_in n (pids rs) ≡ false
unfolding is_in
out_below n [] h = refl
out_below n (r ∷ rs) h = or_from _ _ (ne_eqb r.pid n (λ e. omega (arith, h.0, e))) (out_below n rs h.1)

-- the numbers of rising processes are distinct
pub distinct_pids : (rs : List Process) → IsRising rs → IsDistinct (pids rs)
unfolding IsRising IsDistinct
distinct_pids [] up = tt
distinct_pids (r ∷ rs) up = (out_below r.pid rs up.0, distinct_pids rs up.1)

-- a new last one leaves each number once
pub distinct_last : (p : ℕ) (o : List ℕ) → IsDistinct o → is_in p o ≡ false → IsDistinct (o ++ p ∷ [])
unfolding IsDistinct is_in
distinct_last p [] d e = (refl, tt)
distinct_last p (x ∷ xs) d e =
    (in_last x p xs ∙ or_from _ _ d.0 (ne_eqb p x (apart_first p x xs e)), distinct_last p xs d.1 (apart_rest p x xs e))

-- ---- a regular state stays so

-- p, which has no place, gets the last
pub regular_placed : (p : ℕ) (s : State) → IsRegular s → IsPlaced s.processes p → is_in p s.order ≡ false → IsRegular (record s { order = s.order ++ p ∷ [] })
regular_placed p s i h e = regular_with (s.order ++ p ∷ []) s.consoles s
    (λ q t. elim (or_cases _ (p == q) (sym (in_last q p s.order) ∙ t)) [ inl there ↦ i.placed q there | inr same ↦ subst (IsPlaced s.processes) (eqb-true p q same) h ])
    (distinct_last p s.order i.distinct e) i.consoles i

-- p, which has a place, goes last
pub regular_last : (p : ℕ) (s : State) → IsRegular s → is_in p s.order ≡ true → IsRegular (go_last s p)
regular_last p s i h = regular_placed p (lose_place s p) (regular_lose p s i) (i.placed p h) (out_of p s.order)

-- the first of an order is in it
pub first_in : (p : ℕ) (o : List ℕ) → slice_get o 0 ≡ Some p → is_in p o ≡ true
unfolding is_in
first_in p [] e = absurd (cc)
first_in p (x ∷ xs) e = let same : x ≡ p = cc in rw (eq-eqb x p same) refl
