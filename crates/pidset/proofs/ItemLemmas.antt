-- Facts about items in rising order of their numbers.
use Rattle.std.proofs.Common.{◌≡◌, ◌≢◌, ℕ, zero, suc, ◌+◌, ◌-◌, ◌<◌, Bool, true, false, cond, not, refl, ap, sym, ◌∙◌, arith, subst, List, [], ◌∷◌, length, map, filter, find, insert, remove, slice_get, slice_set, get_or, Some, None, Result, Ok, Err, IfOk, IfErr, ◌==◌, nat_lt}
use Rattle.std.specs.List.{AllByRecursion}
use Rattle.std.specs.List.Sorted.{IsSearchInRange, IsBinarySearchResult, IsNonDecreasingBy}
use Rattle.std.specs.Option.{IfSome}
use Rattle.std.specs.Ordering.{nat_cmp, ordering_index}
use Rattle.std.proofs.lemmas.Cmp.{ranked}
use Rattle.std.proofs.lemmas.List.{length-map}
use Rattle.std.proofs.Math.ListN.{get_or-map}
use Rattle.std.proofs.lemmas.Option.{get_or_from_slice_get, slice_get_past, slice_get_within, slice_get_read}
use Rattle.std.proofs.lemmas.Bool.{eqb-true, eq-eqb}
use Rattle.std.proofs.lemmas.Bool.Decides.{nat_tests}
use Rattle.posix.specs.Common.{is_in}
use Rattle.pidset.specs.Numbers.{Rises, with_number, IsNumberAt, IsInsertionPoint, index_behind, inserted_in_order}
use Rattle.pidset.proofs.NumberLemmas.{AllAbove, above_get, above_less, not_in_above, out_point, later, rising_or, rises_filter, rises_with}

-- ---- at the index of a number

-- the index of a number is within the list
pub at_below : {X : Type 0} (f : X → ℕ) (xs : List X) (n i : ℕ) → IsNumberAt (map f xs) n i → i < length xs
at_below f xs n i e = subst (λ k. i < k) (length-map xs f) (slice_get_within (map f xs) i n e)

-- the item that is read at this index
pub read_at : {X : Type 0} (f : X → ℕ) (xs : List X) (n i : ℕ) (x : X) → IsNumberAt (map f xs) n i → x ≡ get_or xs i x → slice_get xs i ≡ Some x
read_at f xs n i x e is = slice_get_read xs (length xs) i x refl (at_below f xs n i e) is

-- this item is the one found by its number
pub find_at : {X : Type 0} (f : X → ℕ) (xs : List X) → Rises (map f xs) → (n i : ℕ) → IsNumberAt (map f xs) n i → find (λ x. f x == n) xs ≡ slice_get xs i
unfolding Rises
find_at f [] up n i e = absurd (cc)
find_at f (x ∷ xs) up n zero e = let same : f x ≡ n = cc in rw (eq-eqb (f x) n same) refl
find_at f (x ∷ xs) up n (suc i) e = grind (arith, above_get (f x) (map f xs) up.0 i n e, find_at f xs up.1 n i e, eqb-true (f x) n)

-- a number that is absent isn't found
pub find_none : {X : Type 0} (f : X → ℕ) (xs : List X) (n : ℕ) → is_in n (map f xs) ≡ false → find (λ x. f x == n) xs ≡ None
unfolding is_in
find_none f [] n e = refl
find_none f (x ∷ xs) n e = grind (arith, find_none f xs n)

-- if no item has the number, the others are all items
pub others_all : {X : Type 0} (f : X → ℕ) (xs : List X) (n : ℕ) → find (λ x. f x == n) xs ≡ None → filter (λ x. not (f x == n)) xs ≡ xs
others_all f [] n e = refl
others_all f (x ∷ xs) n e = grind (arith, others_all f xs n)

-- an item with another number is found among the others as among all
pub find_other : {X : Type 0} (f : X → ℕ) (xs : List X) (p q : ℕ) → q ≢ p → find (λ x. f x == q) (filter (λ x. not (f x == p)) xs) ≡ find (λ x. f x == q) xs
find_other f [] p q ne = refl
find_other f (x ∷ xs) p q ne = grind (arith, eqb-true, find_other f xs p q ne)

-- an item with the number is not found among the others
pub find_gone : {X : Type 0} (f : X → ℕ) (xs : List X) (p : ℕ) → find (λ x. f x == p) (filter (λ x. not (f x == p)) xs) ≡ None
find_gone f [] p = refl
find_gone f (x ∷ xs) p = grind (arith, find_gone f xs p)

-- the others are the items at all other indexes
pub others_at : {X : Type 0} (f : X → ℕ) (xs : List X) → Rises (map f xs) → (n i : ℕ) → IsNumberAt (map f xs) n i → filter (λ x. not (f x == n)) xs ≡ remove xs i
unfolding Rises
others_at f [] up n i e = absurd (cc)
others_at f (x ∷ xs) up n zero e =
    let same : f x ≡ n = cc in
    rw (eq-eqb (f x) n same) (others_all f xs n (find_none f xs n (not_in_above (f x) n (map f xs) (omega (arith, same)) up.0)))
others_at f (x ∷ xs) up n (suc i) e = grind (arith, above_get (f x) (map f xs) up.0 i n e, others_at f xs up.1 n i e, eqb-true (f x) n)

-- ---- at the index where a number would be inserted

pub find_point : {X : Type 0} (f : X → ℕ) (xs : List X) → Rises (map f xs) → (n i : ℕ) → IsInsertionPoint (map f xs) n i → find (λ x. f x == n) xs ≡ None
find_point f xs up n i g = find_none f xs n (out_point (map f xs) up n i g)

-- an item is inserted at the insertion point of its number
pub insert_point : {X : Type 0} (f : X → ℕ) (xs : List X) (i : ℕ) (new : X) → IsInsertionPoint (map f xs) (f new) i → inserted_in_order f new xs ≡ insert xs i new
unfolding inserted_in_order
insert_point f [] zero new g = refl
insert_point f [] (suc i) new g = let l = g.in_range in absurd (omega arith)
insert_point f (x ∷ xs) zero new g = let l : nat_lt (f new) (f x) ≡ true = grind (arith, nat_tests, g.after) in rw l refl
insert_point f (x ∷ xs) (suc i) new g = grind (arith, nat_tests, g.before 0 (omega arith), insert_point f xs i new (later (f x) (map f xs) (f new) i g))

-- the inserted item is found, and all others are found as before
pub find_inserted : {X : Type 0} (f : X → ℕ) (xs : List X) (new : X) → find (λ x. f x == f new) xs ≡ None → (q : ℕ) → find (λ x. f x == q) (inserted_in_order f new xs) ≡ cond (f new == q) (Some new) (find (λ x. f x == q) xs)
unfolding inserted_in_order
find_inserted f [] new e q = refl
find_inserted f (x ∷ xs) new e q = grind (arith, find_inserted f xs new, eqb-true, eq-eqb)

-- a property of the new item and of all others holds of all after the insertion
pub all_inserted : {X : Type 0} (P : X → Type 0) (f : X → ℕ) (new : X) (xs : List X) → P new → AllByRecursion P xs → AllByRecursion P (inserted_in_order f new xs)
unfolding inserted_in_order
all_inserted P f new [] p a = (p, tt)
all_inserted P f new (x ∷ xs) p a = elim (nat_lt (f new) (f x)) as (λ b. AllByRecursion P (cond b (new ∷ x ∷ xs) (x ∷ inserted_in_order f new xs))) [ true ↦ (p, a) | false ↦ (a.0, all_inserted P f new xs p a.1) ]

-- an item that replaces one with the same number is found in its place
pub find_set : {X : Type 0} (f : X → ℕ) (xs : List X) (i : ℕ) (new : X) → Rises (map f xs) → IsNumberAt (map f xs) (f new) i → (q : ℕ) → find (λ x. f x == q) (slice_set xs i new) ≡ cond (f new == q) (Some new) (find (λ x. f x == q) xs)
unfolding Rises
find_set f [] i new up e q = absurd (cc)
find_set f (x ∷ xs) zero new up e q = let same : f x ≡ f new = cc in grind arith
find_set f (x ∷ xs) (suc i) new up e q = grind (arith, find_set f xs i new up.1 e q, above_get (f x) (map f xs) up.0 i (f new) e, eqb-true)

pub numbers_set : {X : Type 0} (f : X → ℕ) (xs : List X) (i : ℕ) (new : X) → IsNumberAt (map f xs) (f new) i → map f (slice_set xs i new) ≡ map f xs
numbers_set f [] i new e = refl
numbers_set f (x ∷ xs) zero new e = let same : f x ≡ f new = cc in ap (λ n. n ∷ map f xs) (sym same)
numbers_set f (x ∷ xs) (suc i) new e = ap (λ ns. f x ∷ ns) (numbers_set f xs i new e)

-- ---- the items above a number

-- if all are above n, they are the items above n
all_above : {X : Type 0} (f : X → ℕ) (xs : List X) (n : ℕ) → AllAbove n (map f xs) → filter (λ x. nat_lt n (f x)) xs ≡ xs
all_above f [] n a = refl
all_above f (x ∷ xs) n a = let t : nat_lt n (f x) ≡ true = grind (arith, nat_tests, a.0) in rw t (ap (λ ys. x ∷ ys) (all_above f xs n a.1))

-- the first item above a number comes after the index of that number
after_index : {X : Type 0} (f : X → ℕ) (xs : List X) → Rises (map f xs) → (n i : ℕ) → IsNumberAt (map f xs) n i → slice_get xs (suc i) ≡ slice_get (filter (λ x. nat_lt n (f x)) xs) 0
unfolding Rises
after_index f [] up n i e = absurd (cc)
after_index f (x ∷ xs) up n zero e =
    let same : f x ≡ n = cc in
    grind (arith, nat_tests, all_above f xs n (above_less n (f x) (map f xs) (omega (arith, same)) up.0))
after_index f (x ∷ xs) up n (suc i) e = grind (arith, nat_tests, above_get (f x) (map f xs) up.0 i n e, after_index f xs up.1 n i e)

-- or it is at the insertion point of the number
at_point : {X : Type 0} (f : X → ℕ) (xs : List X) (n i : ℕ) → IsInsertionPoint (map f xs) n i → slice_get xs i ≡ slice_get (filter (λ x. nat_lt n (f x)) xs) 0
at_point f [] n zero g = refl
at_point f [] n (suc i) g = refl
at_point f (x ∷ xs) n zero g = grind (arith, nat_tests, g.after)
at_point f (x ∷ xs) n (suc i) g = grind (arith, nat_tests, g.before 0 (omega arith), at_point f xs n i (later (f x) (map f xs) n i g))

pub behind_place : {X : Type 0} (f : X → ℕ) (xs : List X) → Rises (map f xs) → (n : ℕ) (place : Result ℕ ℕ) → IfOk place (IsNumberAt (map f xs) n) → IfErr place (IsInsertionPoint (map f xs) n)
    → slice_get xs (index_behind place) ≡ slice_get (filter (λ x. nat_lt n (f x)) xs) 0
behind_place f xs up n (Ok i) at point = let next : i + 1 ≡ suc i = omega arith in ap (λ k. slice_get xs k) next ∙ after_index f xs up n i at
behind_place f xs up n (Err i) at point = at_point f xs n i point

-- ---- the numbers of items

-- the items whose numbers pass a test have just the numbers that pass it
pub numbers_passing : {X : Type 0} (f : X → ℕ) (t : ℕ → Bool) (xs : List X) → filter t (map f xs) ≡ map f (filter (λ x. t (f x)) xs)
numbers_passing f t [] = refl
numbers_passing f t (x ∷ xs) = grind (arith, numbers_passing f t xs)

-- the items that pass stay in order
pub rises_passing : {X : Type 0} (f : X → ℕ) (t : ℕ → Bool) (xs : List X) → Rises (map f xs) → Rises (map f (filter (λ x. t (f x)) xs))
rises_passing f t xs up = subst Rises (numbers_passing f t xs) (rises_filter t (map f xs) up)

-- if no item has the number of a new item, the number is inserted with the item
numbers_inserted : {X : Type 0} (f : X → ℕ) (xs : List X) (new : X) → find (λ x. f x == f new) xs ≡ None → with_number (f new) (map f xs) ≡ map f (inserted_in_order f new xs)
unfolding inserted_in_order with_number
numbers_inserted f [] new e = refl
numbers_inserted f (x ∷ xs) new e = grind (arith, numbers_inserted f xs new, eqb-true, eq-eqb)

-- the order stays
pub rises_inserted : {X : Type 0} (f : X → ℕ) (xs : List X) (new : X) → Rises (map f xs) → find (λ x. f x == f new) xs ≡ None → Rises (map f (inserted_in_order f new xs))
rises_inserted f xs new up e = subst Rises (numbers_inserted f xs new e) (rises_with (f new) (map f xs) up)

-- ---- a search

-- an item at a later index has a higher number
rising_at : {X : Type 0} (f : X → ℕ) (xs : List X) → Rises (map f xs) → (i j : ℕ) (d : X) → i < j → j < length xs → f (get_or xs i d) < f (get_or xs j d)
rising_at f xs up i j d less lt = rw (← get_or-map f xs i d, ← get_or-map f xs j d) (rising_or (map f xs) up i j (f d) less (omega (arith, length-map xs f, lt)))

-- what a binary search requires
comparisons_rise : {X : Type 0} (f : X → ℕ) (xs : List X) → Rises (map f xs) → (n : ℕ) → IsNonDecreasingBy (λ x. ordering_index (nat_cmp (f x) n)) xs
comparisons_rise f xs up n i j d le lt =
    let rise : i < j → f (get_or xs i d) < f (get_or xs j d) = λ k. rising_at f xs up i j d k lt in
    grind (arith, nat_tests, rise, λ (same : i ≡ j). ap (λ k. f (get_or xs k d)) same)

-- a property of the item at an index within the list is one of the number there, if there is one
some_at : {X : Type 0} (f : X → ℕ) (xs : List X) (j : ℕ) (P : ℕ → Type 0) → ((d : X) → j < length xs → P (f (get_or xs j d))) → IfSome (slice_get (map f xs) j) P
some_at f [] j P h = tt
some_at f (x ∷ xs) zero P h = h x (omega arith)
some_at f (x ∷ xs) (suc j) P h = some_at f xs j P (λ d lt. h d (omega arith))

-- if the item at an index within the list has a number, the number is there
is_at : {X : Type 0} (f : X → ℕ) (xs : List X) (i n : ℕ) → i < length xs → ((d : X) → f (get_or xs i d) ≡ n) → IsNumberAt (map f xs) n i
is_at f [] i n lt h = absurd (omega arith)
is_at f (x ∷ xs) zero n lt h = ap Some (h x)
is_at f (x ∷ xs) (suc i) n lt h = is_at f xs i n (omega arith) h

-- a binary search ends at the number or at its insertion point
pub found_at : {X : Type 0} (f : X → ℕ) (xs : List X) (n : ℕ) (r : Result ℕ ℕ) → IsSearchInRange r (length xs) → IsBinarySearchResult (λ x. nat_cmp (f x) n) xs r → IfOk r (IsNumberAt (map f xs) n)
found_at f xs n (Ok i) range equal = is_at f xs i n range (λ d. ranked _ n _ (sym (equal d)))
found_at f xs n (Err i) range parted = tt

pub point_at : {X : Type 0} (f : X → ℕ) (xs : List X) → Rises (map f xs) → (n : ℕ) (r : Result ℕ ℕ) → IsSearchInRange r (length xs) → IsBinarySearchResult (λ x. nat_cmp (f x) n) xs r → IfErr r (IsInsertionPoint (map f xs) n)
point_at f xs up n (Ok i) range equal = tt
point_at f xs up n (Err i) range parted =
    let p = parted (comparisons_rise f xs up n) in
    record {
      in_range = let long = length-map xs f in omega (arith, range, long);
      before = λ j lt. some_at f xs j (λ m. m < n) (λ d h. ranked _ n _ (sym (p.0 j d (omega arith) lt)));
      after = some_at f xs i (λ m. n < m) (λ d h. ranked _ n _ (sym (p.1 i d (omega arith) h)));
    }

-- a number below that of the first item is inserted before it
pub point_first : {X : Type 0} (f : X → ℕ) (xs : List X) (n : ℕ) (x : X) → x ≡ get_or xs 0 x → n < f x → IsInsertionPoint (map f xs) n 0
point_first f [] n x is lt = record { in_range = omega arith; before = λ j low. tt; after = tt }
point_first f (y ∷ xs) n x is lt = record { in_range = omega arith; before = λ j low. absurd (omega (arith, low)); after = subst (λ y. n < f y) is lt }

-- a number above that of the last item is inserted at the end
pub point_end : {X : Type 0} (f : X → ℕ) (xs : List X) → Rises (map f xs) → (n : ℕ) (x : X) → slice_get xs (length xs - 1) ≡ Some x → f x < n → IsInsertionPoint (map f xs) n (length xs)
point_end f xs up n x e lt =
    let long = length-map xs f in
    record {
      in_range = omega (arith, long);
      before = λ j low. some_at f xs j (λ m. m < n) (λ d h.
          grind (arith, ap f (get_or_from_slice_get xs _ x d e), λ (k : j < length xs - 1). rising_at f xs up j (length xs - 1) d k (omega (arith, h)), λ (same : j ≡ length xs - 1). ap (λ k. f (get_or xs k d)) same));
      after = rw (slice_get_past (map f xs) (length xs) (omega (arith, long))) tt;
    }
