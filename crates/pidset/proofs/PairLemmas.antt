-- Facts about pairs of a key and a process ID, such as a parent and its child.
use Rattle.std.proofs.Common.{◌≡◌, ℕ, ◌+◌, ◌<◌, ◌≤◌, Bool, true, false, cond, not, ◌&&◌, ◌||◌, refl, ap, sym, ◌∙◌, arith, subst, List, [], ◌∷◌, length, map, filter, find, insert, is_some, Option, Some, None, ◌==◌, nat_le, nat_lt, inl, inr, slice_get}
use Rattle.std.specs.List.{AllByRecursion, list_any}
use Rattle.std.specs.Option.{option_map_or}
use Rattle.std.proofs.lemmas.Bool.{eqb-true, eq-eqb, ne_eqb, ltb-true, ltb-false, le-leb, lt-leb, cases_eq, false_from_ne_true, or_right}
use Rattle.std.proofs.lemmas.Bool.Decides.{nat_tests}
use Rattle.std.proofs.Math.Bool.{and-false}
use Rattle.posix.specs.Common.{is_in}
use Rattle.pidset.specs.declared.index.Pair.{Pair}
use Rattle.pidset.specs.Numbers.{Rises, with_number, inserted_in_order, IsInsertionPoint}
use Rattle.pidset.specs.Indexes.{ArePairs, IsPair, IsNextPair, has_within, keyed_number, pair_number, is_pair, is_pair_in}
use Rattle.pidset.proofs.NumberLemmas.{AllAbove, all_filter, in_with, in_above, rises_with}
use Rattle.pidset.proofs.ItemLemmas.{all_inserted, rises_inserted, rises_passing, find_point, insert_point}

-- ---- the number of a pair

-- a key and a process ID that fit into the number
abbrev pub Fits : ℕ → ℕ → Type 0
Fits p c = (c < 4294967296) × (p ≤ 18446744073709551615)

-- the number distinguishes pairs
pair_is : (x : Pair) (p c : ℕ) → Fits x.key x.pid → Fits p c → is_pair p c x ≡ (pair_number x == keyed_number p c)
pair_is x p c low l = elim (cases_eq x.key p) [
  | inl e ↦ elim (cases_eq x.pid c) [
    | inl f ↦ rw (eq-eqb x.key p e, eq-eqb x.pid c f, eq-eqb (pair_number x) (keyed_number p c) (omega (arith, e, f))) refl
    | inr f ↦ rw (ne_eqb x.pid c f, ne_eqb (pair_number x) (keyed_number p c) (λ k. f (omega (arith, e, k)))) (and-false (x.key == p))
  ]
  | inr e ↦ rw (ne_eqb x.key p e, ne_eqb (pair_number x) (keyed_number p c) (λ k. e (omega (arith, k, low.0, low.1, l.0, l.1)))) refl
]

-- the child of a pair in the list is in the range of IDs, and its parent in that of keys
pub child_range : (pairs : List Pair) → AllByRecursion IsPair pairs → (p c : ℕ) → is_pair_in p c pairs ≡ true → (1 ≤ c) × (c < 4294967296) × (p ≤ 18446744073709551615)
unfolding is_pair_in
child_range [] h p c e = absurd (cc)
child_range (x ∷ xs) h p c e = grind (arith, eqb-true, child_range xs h.1 p c, h.0.0, h.0.1, h.0.2)

-- a pair is in the list if its number is
pub child_is : (pairs : List Pair) → AllByRecursion IsPair pairs → (p c : ℕ) → Fits p c → is_pair_in p c pairs ≡ is_in (keyed_number p c) (map pair_number pairs)
unfolding is_pair_in is_in
child_is [] h p c l = refl
child_is (x ∷ xs) h p c l = rw (pair_is x p c (h.0.1, h.0.2) l, child_is xs h.1 p c l) refl

-- a pair is in the list if it is found
pub child_found : (x : Pair) (pairs : List Pair) → Fits x.key x.pid → AllByRecursion IsPair pairs → is_pair_in x.key x.pid pairs ≡ is_some (find (λ y. pair_number y == pair_number x) pairs)
unfolding is_pair_in
child_found x [] l h = refl
child_found x (y ∷ ys) l h = grind (arith, pair_is y x.key x.pid (h.0.1, h.0.2) l, child_found x ys l h.1)

-- ---- a pair that is inserted

any_inserted : (t : Pair → Bool) (new : Pair) (xs : List Pair) → list_any t (inserted_in_order pair_number new xs) ≡ (t new || list_any t xs)
unfolding inserted_in_order
any_inserted t new [] = refl
any_inserted t new (x ∷ xs) = grind (arith, any_inserted t new xs)

-- a pair that is inserted
pub record IsPut (new : Pair) (at : ℕ) (pairs : List Pair) : Type 0 where
  pub absent : is_pair_in new.key new.pid pairs ≡ false
  pub once : ArePairs (insert pairs at new)
  pub children : (p c : ℕ) → is_pair_in p c (insert pairs at new) ≡ (p == new.key && c == new.pid || is_pair_in p c pairs)

pub put_at_point : (new : Pair) (pairs : List Pair) (at : ℕ) → IsPair new → ArePairs pairs → IsInsertionPoint (map pair_number pairs) (pair_number new) at → IsPut new at pairs
unfolding is_pair_in
put_at_point new pairs at i h point =
    let none = find_point pair_number pairs h.rising (pair_number new) at point in
    let is = insert_point pair_number pairs at new point in
    record {
      absent = child_found new pairs (i.1, i.2) h.within ∙ ap is_some none;
      once = subst ArePairs is (record { rising = rises_inserted pair_number pairs new h.rising none; within = all_inserted IsPair pair_number new pairs i h.within });
      children = λ p c. rw (← is) (grind (arith, eqb-true, eq-eqb, any_inserted (is_pair p c) new pairs));
    }

-- if the pair is in the list, nothing is inserted
pub child_there : (p q c d : ℕ) (pairs : List Pair) → is_pair_in q d pairs ≡ true → is_pair_in p c pairs ≡ (p == q && c == d || is_pair_in p c pairs)
child_there p q c d pairs e = grind (arith, eqb-true, e)

-- ---- a pair that is removed

pub child_taken : (x : Pair) (pairs : List Pair) → Fits x.key x.pid → AllByRecursion IsPair pairs → (p c : ℕ) → is_pair_in p c (filter (λ y. not (pair_number y == pair_number x)) pairs) ≡ (not (p == x.key && c == x.pid) && is_pair_in p c pairs)
unfolding is_pair_in
child_taken x [] l h p c = grind arith
child_taken x (y ∷ ys) l h p c = rw (← pair_is y x.key x.pid (h.0.1, h.0.2) l) (grind (arith, eqb-true, eq-eqb, child_taken x ys l h.1 p c))

pub pairs_taken : (n : ℕ) (pairs : List Pair) → ArePairs pairs → ArePairs (filter (λ y. not (pair_number y == n)) pairs)
pairs_taken n pairs h = record { rising = rises_passing pair_number (λ m. not (m == n)) pairs h.rising; within = all_filter IsPair _ pairs h.within }

-- ---- the next child

-- a pair in a list above k is above k
pair_above : (k : ℕ) (xs : List Pair) → AllByRecursion IsPair xs → AllAbove k (map pair_number xs) → (q c : ℕ) → is_pair_in q c xs ≡ true → k < keyed_number q c
pair_above k xs h a q c e = let r = child_range xs h q c e in in_above k (keyed_number q c) (map pair_number xs) a (sym (child_is xs h q c (r.1, r.2)) ∙ e)

-- the process ID of a pair, if its key is k
abbrev pub pid_under : ℕ → Option Pair → Option ℕ
pid_under k None = None
pid_under k (Some x) = cond (x.key == k) (Some x.pid) None

-- The first pair above k and n, if its key is k, is the next of k.
pub next_is : (k n : ℕ) (pairs : List Pair) → ArePairs pairs → IsNextPair k n pairs (pid_under k (slice_get (filter (λ y. nat_lt (keyed_number k n) (pair_number y)) pairs) 0))
unfolding Rises is_pair_in
next_is k n [] h = record { there = λ c e. absurd (cc); least = λ c e l. absurd (cc) }
next_is k n (x ∷ xs) h = elim (nat_lt (keyed_number k n) (pair_number x)) as (λ b. nat_lt (keyed_number k n) (pair_number x) ≡ b → IsNextPair k n (x ∷ xs) (pid_under k (slice_get (cond b (x ∷ filter (λ y. nat_lt (keyed_number k n) (pair_number y)) xs) (filter (λ y. nat_lt (keyed_number k n) (pair_number y)) xs)) 0))) [
  | true ↦ λ t.
      let high = ltb-true _ _ t in
      let above = pair_above (pair_number x) xs h.within.1 h.rising.0 k in
      elim (cases_eq x.key k) [
        | inl e ↦ rw (eq-eqb x.key k e) (record {
          there = λ c f. let same : x.pid ≡ c = cc in (omega (arith, high, same, e), grind (arith, eq-eqb x.key k e, eq-eqb x.pid c same));
          least = λ c f l. (x.pid, refl, grind (arith, eqb-true, e, above c));
        })
        | inr ne ↦ rw (ne_eqb x.key k ne) (record {
          there = λ c f. absurd (cc);
          least = λ c f l. absurd (grind (arith, eqb-true, ne, above c, child_range xs h.within.1 k c, high, h.within.0.1, h.within.0.2));
        })
      ]
  | false ↦ λ t.
      let low = ltb-false _ _ t in
      let i = next_is k n xs (record { rising = h.rising.1; within = h.within.1 }) in
      record {
        there = λ c e. let j = i.there c e in (j.0, or_right (is_pair k c x) _ j.1);
        least = λ c f l. i.least c (grind (arith, eqb-true, low)) l;
      }
] refl

-- ---- keys from low to high

-- if none of these keys is present, no process has one of them
pub none_within : (low high k c : ℕ) (pairs : List Pair) → low ≤ k → k ≤ high → has_within low high pairs ≡ false → is_pair_in k c pairs ≡ false
unfolding is_pair_in
none_within low high k c [] a b e = refl
none_within low high k c (x ∷ xs) a b e = grind (arith, nat_tests, none_within low high k c xs a b)

-- keys fall, so the first of a list has the largest
least_within : (low high : ℕ) (x : Pair) (xs : List Pair) → IsPair x → AllByRecursion IsPair xs → AllAbove (pair_number x) (map pair_number xs) → has_within low high xs ≡ true → low ≤ x.key
least_within low high x [] i h a e = absurd (cc)
least_within low high x (y ∷ ys) i h a e = grind (arith, nat_tests, least_within low high x ys i h.1 a.1, a.0, i.1, h.0.1, h.0.2)

-- The first pair whose key isn't above `high` shows whether one of these keys is present.
pub within_first : (low high : ℕ) (pairs : List Pair) → high ≤ 18446744073709551615 → ArePairs pairs → has_within low high pairs ≡ option_map_or (λ (x : Pair). nat_le low x.key) (slice_get (filter (λ y. nat_lt (keyed_number high 0) (pair_number y)) pairs) 0) false
unfolding Rises
within_first low high [] l h = refl
within_first low high (y ∷ ys) l h = elim (nat_lt (keyed_number high 0) (pair_number y)) as (λ b. nat_lt (keyed_number high 0) (pair_number y) ≡ b → has_within low high (y ∷ ys) ≡ option_map_or (λ (x : Pair). nat_le low x.key) (slice_get (cond b (y ∷ filter (λ y. nat_lt (keyed_number high 0) (pair_number y)) ys) (filter (λ y. nat_lt (keyed_number high 0) (pair_number y)) ys)) 0) false) [
  | true ↦ λ t. let k = ltb-true _ _ t in rw (le-leb y.key high (omega (arith, k, h.within.0.1, h.within.0.2, l))) (grind (arith, nat_tests, least_within low high y ys h.within.0 h.within.1 h.rising.0))
  | false ↦ λ t. let k = ltb-false _ _ t in rw (lt-leb y.key high (omega (arith, k, h.within.0.0, h.within.0.2, l)), and-false (nat_le low y.key)) (within_first low high ys l (record { rising = h.rising.1; within = h.within.1 }))
] refl

-- ---- how many there are

-- the children in rising order
pub in_order : List Pair → List ℕ
in_order [] = []
in_order (x ∷ xs) = with_number x.pid (in_order xs)

pub rises_in_order : (xs : List Pair) → Rises (in_order xs)
unfolding in_order Rises
rises_in_order [] = tt
rises_in_order (x ∷ xs) = rises_with x.pid (in_order xs) (rises_in_order xs)

-- each child in it has a parent
pub key_in_order : (xs : List Pair) (c : ℕ) → is_in c (in_order xs) ≡ true → (p : ℕ) × (is_pair_in p c xs ≡ true)
unfolding in_order is_in is_pair_in
key_in_order [] c e = absurd (cc)
key_in_order (x ∷ xs) c e = elim (cases_eq x.pid c) [
  | inl same ↦ (x.key, grind (arith, eq-eqb x.key x.key refl, eq-eqb x.pid c same))
  | inr ne ↦ let k = key_in_order xs c (grind (arith, eqb-true, in_with c x.pid (in_order xs))) in (k.0, or_right (is_pair k.0 c x) _ k.1)
]

length_with : (n : ℕ) (ns : List ℕ) → is_in n ns ≡ false → length (with_number n ns) ≡ length ns + 1
unfolding with_number is_in
length_with n [] e = refl
length_with n (x ∷ xs) e = grind (arith, length_with n xs, eq-eqb x n, eqb-true n x)

-- if no child has two parents, there are as many children as pairs
pub length_in_order : (xs : List Pair) → ArePairs xs → ((p q c : ℕ) → is_pair_in p c xs ≡ true → is_pair_in q c xs ≡ true → p ≡ q) → length (in_order xs) ≡ length xs
unfolding in_order Rises is_pair_in
length_in_order [] h once = refl
length_in_order (x ∷ xs) h once =
    let new : is_in x.pid (in_order xs) ≡ false = false_from_ne_true _ (λ t.
    let k = key_in_order xs x.pid t in
    let same = once k.0 x.key x.pid (or_right (is_pair k.0 x.pid x) _ k.1) (grind (arith, eq-eqb x.key x.key refl, eq-eqb x.pid x.pid refl)) in
    let less = pair_above (pair_number x) xs h.within.1 h.rising.0 k.0 x.pid k.1 in
    omega (arith, same, less)) in
    let l = length_with x.pid (in_order xs) new in
    let rest = length_in_order xs (record { rising = h.rising.1; within = h.within.1 }) (λ p q c e f. once p q c (or_right (is_pair p c x) _ e) (or_right (is_pair q c x) _ f)) in
    omega (arith, l, rest)

-- no process is left if there is no next one
pub none_left : (k : ℕ) (pairs : List Pair) → ArePairs pairs → IsNextPair k 0 pairs None → (p : ℕ) → is_pair_in k p pairs ≡ false
none_left k pairs h i p = false_from_ne_true _ (λ e. let no = i.least p e (child_range pairs h.within k p e).0 in let both : None ≡ Some no.0 = no.1 in absurd (cc))
