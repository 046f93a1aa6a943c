-- Lists of processes in the rising order of their stamps.
use Rattle.std.proofs.Common.{ℕ, suc, ◌+◌, ◌<◌, ◌≤◌, true, false, cond, not, ◌&&◌, ◌||◌, ◌==◌, List, [], ◌∷◌, ◌++◌, get_or, slice_get, Option, Some, None, is_some, IsSome, All, AllPairs, Contains, ◌≡◌, ⊎_elim, refl, sym, ap, subst, ◌∙◌, arith}
use Rattle.std.specs.Bool.{one_answer}
use Rattle.std.proofs.lemmas.Bool.{eqb-true, eqb-false, eq-eqb, not-true, cases_eq, cases_Bool}
use Rattle.std.proofs.lemmas.List.Elements.{All-weaker, All-filter, filter_passes, Contains-get_or}
use Rattle.std.proofs.lemmas.List.Folds.{Any-from_list_any, list_any_at}
use Rattle.std.proofs.lemmas.List.Kept.{AllPairs-filter}
use Rattle.std.proofs.lemmas.List.Quantifiers.{all_pairs_push}
use Rattle.posix.specs.Common.{is_in, without}
use Rattle.posix.proofs.ResultLemmas.{there}
use Rattle.posix.proofs.MemberLemmas.{in_without, in_last, in_first, in_rest}
use Rattle.posix.proofs.OrderLemmas.{without_absent}
use Rattle.laws.specs.Stamps.{Stamps, without_stamp, with_stamp, AllBelow, IsBelow, IsRisingOrder, HasLeastStamp, Stamping, IsStamped, Move, Lose, GoLast, Place, CanMove, order_moved, stamping_moved, Leads, stamping_after}

-- the field `rising`
abbrev Rises : Stamps → List ℕ → Type 0
Rises stamps order = AllPairs (λ q r. IsBelow (stamps q) (stamps r)) order

-- ---- who is in a list

-- an element passes the test
is_in_from_Contains : (q : ℕ) (order : List ℕ) → Contains order q → is_in q order ≡ true
unfolding is_in
is_in_from_Contains q order c = list_any_at (λ x. x == q) order c.0 q c.1 (eq-eqb _ q c.2)

-- what passes the test is an element
Contains_from_is_in : (q : ℕ) (order : List ℕ) → is_in q order ≡ true → Contains order q
unfolding is_in
Contains_from_is_in q order e =
    let a = Any-from_list_any (λ x. x == q) order e in
    subst (Contains order) (eqb-true a.1 q a.4) (a.0, a.2, a.3)

-- p is in the list, and the others stay
is_in_last : (p q : ℕ) (order : List ℕ) → is_in q (without p order ++ p ∷ []) ≡ cond (q == p) true (is_in q order)
is_in_last p q order = in_last q p (without p order) ∙ rw (in_without q p order) (grind (arith, eqb-true, eqb-false, eq-eqb))

-- the field `placed`, as an equation of tests
is_in_is_some : (order : List ℕ) (stamps : Stamps) → IsRisingOrder order stamps → (q : ℕ) → is_in q order ≡ is_some (stamps q)
is_in_is_some order stamps h q =
    one_answer {P = IsSome (stamps q)} (is_in q order) (is_some (stamps q))
    (λ e. (h.placed q).0 (Contains_from_is_in q order e), λ e. is_in_from_Contains q order ((h.placed q).1 e))
    (λ e. e, λ e. e)

-- a rising order, by that equation
rising_order : (order : List ℕ) (stamps : Stamps) → ((q : ℕ) → is_in q order ≡ is_some (stamps q))
    → Rises stamps order → IsRisingOrder order stamps
rising_order order stamps same rising = record {
  placed = λ q. (λ c. sym (same q) ∙ is_in_from_Contains q order c, λ e. Contains_from_is_in q order (same q ∙ e));
  rising = rising;
}

-- ---- changes of places

-- a list that rises by stamps rises by others that agree with them on it
agree : (order : List ℕ) (old new : Stamps) → All (λ x. new x ≡ old x) order
    → Rises old order → Rises new order
agree order old new same rising i j d lt within = rw (same i d (omega arith), same j d within) (rising i j d lt within)

-- no element is p
all_others : (p : ℕ) (order : List ℕ) → All (λ x. (x == p) ≡ false) (without p order)
unfolding without
all_others p order =
    All-weaker (λ x. not (x == p) ≡ true) (λ x. (x == p) ≡ false) (λ x e. not-true _ e) (without p order) (filter_passes (λ x. not (x == p)) order)

-- a list without p rises as before
rising_without : (p : ℕ) (order : List ℕ) (stamps : Stamps) → Rises stamps order → Rises stamps (without p order)
unfolding without
rising_without p order stamps rising = AllPairs-filter (λ q r. IsBelow (stamps q) (stamps r)) (λ x. not (x == p)) order rising

-- p has no stamp, and the others have one where they had
is_some_without : (p q : ℕ) (stamps : Stamps) → is_some (without_stamp p stamps q) ≡ (not (q == p) && is_some (stamps q))
is_some_without p q stamps = grind (arith, cases_Bool)

-- p has a stamp, and the others have one where they had
is_some_with : (p n q : ℕ) (stamps : Stamps) → is_some (with_stamp p n stamps q) ≡ cond (q == p) true (is_some (stamps q))
is_some_with p n q stamps = grind (arith, cases_Bool)

-- p loses its place and its stamp
pub losing_keeps_order : (p : ℕ) (order : List ℕ) (stamps : Stamps) → IsRisingOrder order stamps
    → IsRisingOrder (without p order) (without_stamp p stamps)
losing_keeps_order p order stamps h =
    rising_order (without p order) (without_stamp p stamps)
    (λ q. in_without q p order ∙ ap (λ b. not (q == p) && b) (is_in_is_some order stamps h q) ∙ sym (is_some_without p q stamps))
    (agree (without p order) stamps (without_stamp p stamps)
    (λ k d lt. rw (all_others p order k d lt) refl)
    (rising_without p order stamps h.rising))

-- a stamp is below n where each stamp is
below_next : (n : ℕ) (o : Option ℕ) → is_some o ≡ true → ((m : ℕ) → o ≡ Some m → m < n) → IsBelow o (Some n)
below_next n None e below = cc
below_next n (Some m) e below = below m refl

-- p goes last and has the next stamp
pub last_keeps_order : (p n : ℕ) (order : List ℕ) (stamps : Stamps) → AllBelow n stamps → IsRisingOrder order stamps
    → IsRisingOrder (without p order ++ p ∷ []) (with_stamp p n stamps)
unfolding without
last_keeps_order p n order stamps below h =
    rising_order (without p order ++ p ∷ []) (with_stamp p n stamps)
    (λ q. is_in_last p q order ∙ ap (cond (q == p) true) (is_in_is_some order stamps h q) ∙ sym (is_some_with p n q stamps))
    (all_pairs_push (λ q r. IsBelow (with_stamp p n stamps q) (with_stamp p n stamps r)) (without p order) p
    (agree (without p order) stamps (with_stamp p n stamps) (λ k d lt. rw (all_others p order k d lt) refl)
    (rising_without p order stamps h.rising))
    (λ k d lt. rw (eq-eqb p p refl, all_others p order k d lt)
    (below_next n (stamps (get_or (without p order) k d)) (stamped k d lt) (below (get_or (without p order) k d)))))
  where
    -- who is in the list has a stamp
    stamped : All (λ x. is_some (stamps x) ≡ true) (without p order)
    stamped = All-filter (λ x. not (x == p)) (λ x. is_some (stamps x) ≡ true) order
        (λ k d lt. (h.placed (get_or order k d)).0 (Contains-get_or order k d lt))

-- ---- moves

-- the stamps stay below n where one is lost
below_without : (p n : ℕ) (stamps : Stamps) → AllBelow n stamps → AllBelow n (without_stamp p stamps)
below_without p n stamps below q m e = elim (q == p) as (λ b. cond b None (stamps q) ≡ Some m → m < n) [ true ↦ λ k. absurd (cc) | false ↦ λ k. below q m k ] e

-- with the stamp n all are below the next
below_with : (p n : ℕ) (stamps : Stamps) → AllBelow n stamps → AllBelow (n + 1) (with_stamp p n stamps)
below_with p n stamps below q m e = elim (q == p) as (λ b. cond b (Some n) (stamps q) ≡ Some m → m < n + 1) [
  | true ↦ λ k. let same : n ≡ m = cc in omega (arith, same)
  | false ↦ λ k. let l = below q m k in omega (arith, l)
] e

-- a move keeps the order that of the stamps
stamped_moved : (turn : Option ℕ) (order : List ℕ) (t : Stamping) (m : Move) → CanMove turn order m → IsStamped order t → IsStamped (order_moved order m) (stamping_moved t m)
stamped_moved turn order t (Lose p) can h = record { rising = losing_keeps_order p order t.stamps h.rising; below = below_without p t.next t.stamps h.below }
stamped_moved turn order t (GoLast p) can h = record { rising = last_keeps_order p t.next order t.stamps h.below h.rising; below = below_with p t.next t.stamps h.below }
stamped_moved turn order t (Place p) can h = record {
  rising = subst (λ o. IsRisingOrder (o ++ p ∷ []) (with_stamp p t.next t.stamps)) (without_absent p order can) (last_keeps_order p t.next order t.stamps h.below h.rising);
  below = below_with p t.next t.stamps h.below;
}

-- and so do several
pub moves_keep_order : (turn : Option ℕ) (old new : List ℕ) (moves : List Move) (t : Stamping) → Leads turn old moves new → IsStamped old t → IsStamped new (stamping_after t moves)
moves_keep_order turn old new [] t leads h = subst (λ o. IsStamped o t) (sym leads) h
moves_keep_order turn old new (m ∷ ms) t leads h = moves_keep_order turn (order_moved old m) new ms (stamping_moved t m) leads.1 (stamped_moved turn old t m leads.0 h)

-- ---- the first

-- the first is below each that is later
below_later : (x : ℕ) (xs : List ℕ) (stamps : Stamps) → Rises stamps (x ∷ xs)
    → (q : ℕ) → is_in q xs ≡ true → IsBelow (stamps x) (stamps q)
below_later x xs stamps rising q e =
    let c = Contains_from_is_in q xs e in
    subst (λ r. IsBelow (stamps x) (stamps r)) c.2 (rising 0 (suc c.0) q (omega arith) (omega arith))

-- a stamp below another, as numbers
lt_of_below : (n m : ℕ) (a b : Option ℕ) → a ≡ Some n → b ≡ Some m → IsBelow a b → n < m
lt_of_below n m None b e f below = absurd below
lt_of_below n m (Some k) None e f below = absurd below
lt_of_below n m (Some k) (Some l) e f below = let same : k ≡ n = cc in let other : l ≡ m = cc in omega arith

-- the first has a stamp at most each other
least_of_all : (x : ℕ) (xs : List ℕ) (stamps : Stamps) → IsRisingOrder (x ∷ xs) stamps
    → (n : ℕ) → stamps x ≡ Some n → (q m : ℕ) → stamps q ≡ Some m → n ≤ m
least_of_all x xs stamps h n e q m f =
    let test : is_in q (x ∷ xs) ≡ true = is_in_is_some (x ∷ xs) stamps h q ∙ ap is_some f in
    ⊎_elim
    (λ here. let number : Some n ≡ Some m = sym e ∙ ap stamps here ∙ f in let same : n ≡ m = cc in omega arith)
    (λ away. let later : is_in q xs ≡ true = sym (in_rest q x xs away) ∙ test in
    let lt = lt_of_below n m (stamps x) (stamps q) e f (below_later x xs stamps h.rising q later) in
    omega arith)
    (cases_eq x q)

-- the first has the least stamp
pub first_is_least : (p : ℕ) (order : List ℕ) (stamps : Stamps) → IsRisingOrder order stamps → slice_get order 0 ≡ Some p
    → HasLeastStamp p stamps
first_is_least p [] stamps h e = absurd cc
first_is_least p (x ∷ xs) stamps h e =
    let same : x ≡ p = cc in
    let least = there (stamps x) ((h.placed x).0 (0, omega arith, refl)) in
    (least.what, rw (← same) least.found, λ q m f. least_of_all x xs stamps h least.what least.found q m f)

-- ---- only one order

-- no two stamps are each below the other
not_both_below : (a b : Option ℕ) → IsBelow a b → IsBelow b a → ⊥
not_both_below None b h k = h
not_both_below (Some m) None h k = h
not_both_below (Some m) (Some n) h k = omega arith

-- the rest of a rising list rises
rising_rest : (x : ℕ) (xs : List ℕ) (stamps : Stamps) → Rises stamps (x ∷ xs) → Rises stamps xs
rising_rest x xs stamps rising i j d lt within = rising (suc i) (suc j) d (omega arith) (omega arith)

-- the first is not among the later
not_again : (x : ℕ) (xs : List ℕ) (stamps : Stamps) → Rises stamps (x ∷ xs) → is_in x xs ≡ false
not_again x xs stamps rising =
    ⊎_elim
    (λ again. let below = below_later x xs stamps rising x again in absurd (not_both_below (stamps x) (stamps x) below below))
    (λ e. e)
    (cases_Bool (is_in x xs))

-- a first that differs is later in the other list
later_elsewhere : (x y : ℕ) (xs ys : List ℕ) → (x ≡ y → ⊥) → is_in x (x ∷ xs) ≡ is_in x (y ∷ ys) → is_in x ys ≡ true
later_elsewhere x y xs ys apart same = sym (in_rest x y ys (λ e. apart (sym e))) ∙ sym same ∙ in_first x xs

-- under one first, the rest have the same members
same_rest : (x q : ℕ) (xs ys : List ℕ) → is_in x xs ≡ false → is_in x ys ≡ false → is_in q (x ∷ xs) ≡ is_in q (x ∷ ys) → is_in q xs ≡ is_in q ys
same_rest x q xs ys out away same =
    ⊎_elim
    (λ here. subst (λ r. is_in r xs ≡ is_in r ys) here (out ∙ sym away))
    (λ other. sym (in_rest q x xs other) ∙ same ∙ in_rest q x ys other)
    (cases_eq x q)

-- two rising lists with the same members are one
same_members : (xs ys : List ℕ) (stamps : Stamps) → Rises stamps xs → Rises stamps ys
    → ((q : ℕ) → is_in q xs ≡ is_in q ys) → xs ≡ ys
unfolding is_in
same_members [] [] stamps up also same = refl
same_members [] (y ∷ ys) stamps up also same = let e : false ≡ (y == y) || is_in y ys = same y in grind (arith, e, eq-eqb)
same_members (x ∷ xs) [] stamps up also same = let e : (x == x) || is_in x xs ≡ false = same x in grind (arith, e, eq-eqb)
same_members (x ∷ xs) (y ∷ ys) stamps up also same =
    ⊎_elim
    (λ one. let again : is_in x ys ≡ false = rw one (not_again y ys stamps also) in
    let rest : xs ≡ ys = same_members xs ys stamps (rising_rest x xs stamps up) (rising_rest y ys stamps also)
    (λ q. same_rest x q xs ys (not_again x xs stamps up) again (same q ∙ ap (λ z. is_in q (z ∷ ys)) (sym one))) in
    cc)
    (λ two. absurd (not_both_below (stamps x) (stamps y)
    (below_later x xs stamps up y (later_elsewhere y x ys xs (λ e. two (sym e)) (sym (same y))))
    (below_later y ys stamps also x (later_elsewhere x y xs ys two (same x)))))
    (cases_eq x y)

-- the stamps settle the order
pub only_one_order : (xs ys : List ℕ) (stamps : Stamps) → IsRisingOrder xs stamps → IsRisingOrder ys stamps → xs ≡ ys
only_one_order xs ys stamps h k = same_members xs ys stamps h.rising k.rising (λ q. is_in_is_some xs stamps h q ∙ sym (is_in_is_some ys stamps k q))
