-- Facts about numbers in rising order.
use Rattle.std.proofs.Common.{◌≡◌, ℕ, zero, suc, ◌+◌, ◌-◌, ◌<◌, ◌≤◌, Bool, true, false, cond, ◌||◌, refl, ap, sym, ◌∙◌, arith, subst, List, [], ◌∷◌, length, filter, insert, slice_get, get_or, Some, ◌==◌, nat_lt}
use Rattle.std.specs.List.{AllByRecursion}
use Rattle.std.specs.Option.{IfSome, IsSome}
use Rattle.std.proofs.lemmas.Option.{IfSome_then}
use Rattle.std.proofs.lemmas.Bool.{eqb-true, eqb-false, eq-eqb, ne_eqb, ltb-true, ltb-false, or_right}
use Rattle.std.proofs.lemmas.Bool.Decides.{nat_tests}
use Rattle.posix.specs.Common.{is_in, without}
use Rattle.pidset.specs.Numbers.{Rises, with_number, numbers_above, IsNumberAt, IsInsertionPoint}
use Rattle.posix.proofs.MemberLemmas.{in_first, in_none, each}

abbrev pub AllAbove : ℕ → List ℕ → Type 0
AllAbove n ns = AllByRecursion (λ m. n < m) ns

-- ---- the numbers above one

-- a list above a number is above each number that is no higher
pub above_less : (m n : ℕ) (ns : List ℕ) → m ≤ n → AllAbove n ns → AllAbove m ns
above_less m n [] l a = tt
above_less m n (x ∷ xs) l a = (omega (arith, l, a.0), above_less m n xs l a.1)

-- the number at any index of a list above n is above n
pub above_get : (n : ℕ) (ns : List ℕ) → AllAbove n ns → (i m : ℕ) → slice_get ns i ≡ Some m → n < m
above_get n [] a i m e = absurd (cc)
above_get n (x ∷ xs) a zero m e = let same : x ≡ m = cc in subst (λ k. n < k) same a.0
above_get n (x ∷ xs) a (suc i) m e = above_get n xs a.1 i m e

-- no number up to n is in a list above n
pub not_in_above : (n k : ℕ) (ns : List ℕ) → k ≤ n → AllAbove n ns → is_in k ns ≡ false
unfolding is_in
not_in_above n k [] l a = refl
not_in_above n k (x ∷ ns) l a = rw (ne_eqb x k (λ e. omega (arith, e, a.0))) (not_in_above n k ns l a.1)

-- a number in a list above n is above n
pub in_above : (n k : ℕ) (ns : List ℕ) → AllAbove n ns → is_in k ns ≡ true → n < k
in_above n k ns a e = each (λ m. n < m) ns a k e

-- a property of every number in a list is one of the list
pub all_in : (P : ℕ → Type 0) (ns : List ℕ) → ((q : ℕ) → is_in q ns ≡ true → P q) → AllByRecursion P ns
unfolding is_in
all_in P [] h = tt
all_in P (x ∷ xs) h = (h x (in_first x xs), all_in P xs (λ q e. h q (or_right (x == q) _ e)))

-- ---- at the index of a number

-- a number at an index is in the list
pub in_at : (ns : List ℕ) (n i : ℕ) → IsNumberAt ns n i → is_in n ns ≡ true
unfolding is_in
in_at [] n i e = absurd (cc)
in_at (x ∷ xs) n zero e = let same : x ≡ n = cc in rw (eq-eqb x n same) refl
in_at (x ∷ xs) n (suc i) e = or_right (x == n) _ (in_at xs n i e)

-- a number that is in the list isn't inserted again
pub with_there : (ns : List ℕ) → Rises ns → (n : ℕ) → is_in n ns ≡ true → with_number n ns ≡ ns
unfolding Rises with_number is_in
with_there [] up n e = absurd (cc)
with_there (x ∷ xs) up n e = grind (arith, nat_tests, e, λ (l : n ≤ x). not_in_above x n xs l up.0, with_there xs up.1 n, eqb-true)

-- ---- at the index where a number would be inserted

-- an insertion point after the head is one of the rest
pub later : (x : ℕ) (xs : List ℕ) (n i : ℕ) → IsInsertionPoint (x ∷ xs) n (suc i) → IsInsertionPoint xs n i
later x xs n i g = record { in_range = let l = g.in_range in omega arith; before = λ j h. g.before (suc j) (omega arith); after = g.after }

-- a number with an insertion point isn't in the list
pub out_point : (ns : List ℕ) → Rises ns → (n i : ℕ) → IsInsertionPoint ns n i → is_in n ns ≡ false
unfolding is_in Rises
out_point [] up n i g = refl
out_point (x ∷ xs) up n zero g = not_in_above n n (x ∷ xs) (omega arith) (g.after, above_less n x xs (let l = g.after in omega (arith, l)) up.0)
out_point (x ∷ xs) up n (suc i) g = grind (arith, g.before 0 (omega arith), out_point xs up.1 n i (later x xs n i g), eqb-true x n)

-- a number is inserted at its insertion point
pub with_point : (ns : List ℕ) (n i : ℕ) → IsInsertionPoint ns n i → with_number n ns ≡ insert ns i n
unfolding with_number
with_point [] n zero g = refl
with_point [] n (suc i) g = let l = g.in_range in absurd (omega arith)
with_point (x ∷ xs) n zero g = let l : nat_lt n x ≡ true = grind (arith, nat_tests, g.after) in rw l refl
with_point (x ∷ xs) n (suc i) g = grind (arith, nat_tests, g.before 0 (omega arith), with_point xs n i (later x xs n i g), eqb-true n x)

-- ---- a search

-- the number at each index of a list above n is above n
above_or : (n : ℕ) (ns : List ℕ) → AllAbove n ns → (j d : ℕ) → j < length ns → n < get_or ns j d
above_or n [] a j d lt = absurd (omega arith)
above_or n (x ∷ xs) a zero d lt = a.0
above_or n (x ∷ xs) a (suc j) d lt = above_or n xs a.1 j d (omega arith)

-- the number at a later index is higher
pub rising_or : (ns : List ℕ) → Rises ns → (i j d : ℕ) → i < j → j < length ns → get_or ns i d < get_or ns j d
unfolding Rises
rising_or [] up i j d less lt = absurd (omega arith)
rising_or (x ∷ xs) up i zero d less lt = absurd (omega arith)
rising_or (x ∷ xs) up zero (suc j) d less lt = above_or x xs up.0 j d (omega arith)
rising_or (x ∷ xs) up (suc i) (suc j) d less lt = rising_or xs up.1 i j d (omega arith) (omega arith)

-- ---- what stays in rising order

-- a property of all items is one of those that pass a test
pub all_filter : {X : Type 0} (P : X → Type 0) (t : X → Bool) (xs : List X) → AllByRecursion P xs → AllByRecursion P (filter t xs)
all_filter P t [] a = tt
all_filter P t (x ∷ xs) a = elim (t x) as (λ b. AllByRecursion P (cond b (x ∷ filter t xs) (filter t xs))) [ true ↦ (a.0, all_filter P t xs a.1) | false ↦ all_filter P t xs a.1 ]

-- the numbers of a rising list that pass a test are in rising order
pub rises_filter : (t : ℕ → Bool) (ns : List ℕ) → Rises ns → Rises (filter t ns)
unfolding Rises
rises_filter t [] u = tt
rises_filter t (x ∷ ns) u = elim (t x) as (λ b. Rises (cond b (x ∷ filter t ns) (filter t ns))) [ true ↦ (all_filter (λ m. x < m) t ns u.0, rises_filter t ns u.1) | false ↦ rises_filter t ns u.1 ]

-- the order stays when a number is removed
pub rises_without : (n : ℕ) (ns : List ℕ) → Rises ns → Rises (without n ns)
unfolding without
rises_without n ns u = rises_filter _ ns u

-- a list stays above n when a number above n is inserted
above_with : (n m : ℕ) (ns : List ℕ) → n < m → AllAbove n ns → AllAbove n (with_number m ns)
unfolding with_number
above_with n m [] l a = (l, tt)
above_with n m (x ∷ xs) l a = grind (arith, l, a.0, a.1, above_with n m xs l a.1)

-- the order stays when a number is inserted
pub rises_with : (n : ℕ) (ns : List ℕ) → Rises ns → Rises (with_number n ns)
unfolding Rises with_number
rises_with n [] u = (tt, tt)
rises_with n (x ∷ xs) u = grind (arith, nat_tests, u.0, u.1, above_less n x xs, above_with x n xs, rises_with n xs u.1, eqb-false)

-- ---- membership

-- an inserted number is in the list, and so are those before
pub in_with : (q n : ℕ) (ns : List ℕ) → is_in q (with_number n ns) ≡ (n == q || is_in q ns)
unfolding with_number is_in
in_with q n [] = refl
in_with q n (x ∷ xs) = grind (arith, in_with q n xs, eqb-true)

-- two rising lists that contain each other's first number start with the same number
first_same : (x : ℕ) (xs : List ℕ) (y : ℕ) (ys : List ℕ) → AllAbove x xs → AllAbove y ys → is_in x (y ∷ ys) ≡ true → is_in y (x ∷ xs) ≡ true → x ≡ y
unfolding is_in
first_same x xs y ys a b h k = grind (arith, eqb-true, in_above y x ys b, in_above x y xs a)

-- and their rests contain the same numbers, if both lists do
rest_same : (x : ℕ) (xs : List ℕ) (y : ℕ) (ys : List ℕ) → AllAbove x xs → AllAbove y ys → x ≡ y → (q : ℕ) → is_in q (x ∷ xs) ≡ is_in q (y ∷ ys) → is_in q xs ≡ is_in q ys
unfolding is_in
rest_same x xs y ys a b same q h = grind (arith, eqb-true, λ (l : q ≤ x). not_in_above x q xs l a, λ (l : q ≤ y). not_in_above y q ys l b)

-- rising lists with the same numbers are the same
pub same_numbers : (xs ys : List ℕ) → Rises xs → Rises ys → ((q : ℕ) → is_in q xs ≡ is_in q ys) → xs ≡ ys
unfolding Rises
same_numbers [] [] up high h = refl
same_numbers [] (y ∷ ys) up high h = absurd (in_none y (h y ∙ in_first y ys))
same_numbers (x ∷ xs) [] up high h = absurd (in_none x (sym (h x) ∙ in_first x xs))
same_numbers (x ∷ xs) (y ∷ ys) up high h =
    let least : x ≡ y = first_same x xs y ys up.0 high.0 (sym (h x) ∙ in_first x xs) (h y ∙ in_first y ys) in
    let rest : xs ≡ ys = same_numbers xs ys up.1 high.1 (λ q. rest_same x xs y ys up.0 high.0 least q (h q)) in
    ap (λ n. n ∷ xs) least ∙ ap (λ ns. y ∷ ns) rest

-- ---- the next above a number

-- m is the first number above n: it is in the list, above n, and none is between
pub record IsLeastAbove (n : ℕ) (ns : List ℕ) (m : ℕ) : Type 0 where
  pub there : is_in m ns ≡ true
  pub above : n < m
  pub least : (q : ℕ) → is_in q ns ≡ true → n < q → m ≤ q

pub next_is : (n : ℕ) (ns : List ℕ) → Rises ns → IfSome (slice_get (numbers_above n ns) 0) (IsLeastAbove n ns)
unfolding Rises is_in
next_is n [] up = tt
next_is n (x ∷ xs) up = elim (nat_lt n x) as (λ b. nat_lt n x ≡ b → IfSome (slice_get (cond b (x ∷ numbers_above n xs) (numbers_above n xs)) 0) (IsLeastAbove n (x ∷ xs))) [
  | true ↦ λ t. record {
    there = in_first x xs;
    above = ltb-true _ _ t;
    least = λ q e l. grind (arith, eqb-true, in_above x q xs up.0);
  }
  | false ↦ λ t. let low : x ≤ n = ltb-false _ _ t in IfSome_then _ {P = IsLeastAbove n xs} (next_is n xs up.1) (λ m h. record {
    there = or_right (x == m) _ h.there;
    above = h.above;
    least = λ q e l. h.least q (grind (arith, eqb-true)) l;
  })
] refl

-- if a number is above n, there is a first one, and it is no higher
pub next_some : (n q : ℕ) (ns : List ℕ) → Rises ns → is_in q ns ≡ true → n < q → IsSome (slice_get (numbers_above n ns) 0)
unfolding Rises is_in
next_some n q [] up e l = absurd (in_none q e)
next_some n q (x ∷ xs) up e l = grind (arith, nat_tests, next_some n q xs up.1)

-- ---- how many there are

-- rising numbers above n and up to m are at most m - n
few_above : (n m : ℕ) (ns : List ℕ) → n ≤ m → Rises ns → AllAbove n ns → AllByRecursion (λ q. q ≤ m) ns → n + length ns ≤ m
unfolding Rises
few_above n m [] l up a b = omega (arith, l)
few_above n m (x ∷ xs) l up a b = let rest = few_above x m xs b.0 up.1 up.0 b.1 in omega (arith, a.0, rest)

-- there are at most m + 1 rising numbers up to m, because 0 may be one
pub few_up_to : (m : ℕ) (ns : List ℕ) → Rises ns → AllByRecursion (λ q. q ≤ m) ns → (k : ℕ) → length ns ≡ k → k ≤ m + 1
unfolding Rises
few_up_to m [] up a k e = omega (arith, e)
few_up_to m (x ∷ xs) up a k e = let rest = few_above x m xs a.0 up.1 up.0 a.1 in omega (arith, e, rest)

-- there are at most m rising numbers from 1 to m
pub few : (m : ℕ) (ns : List ℕ) → Rises ns → ((q : ℕ) → is_in q ns ≡ true → (1 ≤ q) × (q ≤ m)) → length ns ≤ m
few m ns up h =
    let l = few_above 0 m ns (omega arith) up (all_in _ ns (λ q e. let k = (h q e).0 in omega (arith, k))) (all_in _ ns (λ q e. (h q e).1)) in
    omega (arith, l)
