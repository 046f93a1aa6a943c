-- How many schedules a family has.
use Rattle.std.proofs.Common.{◌≡◌, ℕ, zero, suc, ◌+◌, ◌*◌, ◌/◌, ◌^◌, ◌<◌, ◌≤◌, refl, ap, sym, ◌∙◌, arith, ⊎_elim, inl, inr, List, [], ◌∷◌, ◌++◌, length}
use Rattle.std.specs.List.{remove, slice_index_or}
use Rattle.std.proofs.Math.Nat.{mul-div_cancel_left, mul-le-mul_left, mul-le-mul_right}
use Rattle.std.proofs.lemmas.Bool.{cases_lt}
use Rattle.std.proofs.lemmas.List.{length-append, length-map}
use Rattle.std.proofs.lemmas.List.Edits.{length-remove}
use Rattle.schedules.specs.Families.{Spots, spot, with_spot, each_kind, from_each, of_spots, of_at_most, kinds_of, family, choose, ways}

-- ---- the number depends only on the number of kinds, and the number of places

-- The results of f for one kind less, for each kind that can be removed.
abbrev with_one : (ℕ → ℕ) → ℕ → ℕ
with_one f zero = 0
with_one f (suc r) = suc r * f r

-- The sum of the results of f at each place, by the number of places from there.
abbrev at_each : (ℕ → ℕ) → ℕ → ℕ
at_each f zero = 0
at_each f (suc more) = f (suc more) + at_each f more

-- Of n spots, with one of each of r kinds.
abbrev level : ℕ → ℕ → ℕ → ℕ
level zero zero places = 1
level zero (suc r) places = 0
level (suc n) r places = at_each (λ more. level n r more + with_one (λ s. level n s more) r) places

-- Of at most n spots.
abbrev most : ℕ → ℕ → ℕ → ℕ
most zero r places = level zero r places
most (suc n) r places = most n r places + level (suc n) r places

length_each : (f : ℕ → ℕ → List Spots) (g : ℕ → ℕ) → ((p more : ℕ) → length (f p more) ≡ g more) → (p places : ℕ) → length (from_each f p places) ≡ at_each g places
length_each f g h p zero = refl
length_each f g h p (suc more) = omega (arith, length-append (f p (suc more)) (from_each f (p + 1) more), h p (suc more), length_each f g h (p + 1) more)

length_kinds : (f : ℕ → List ℕ → List Spots) (size : ℕ) (kinds : List ℕ) → ((kind : ℕ) (left : List ℕ) → length left + 1 ≡ length kinds → length (f kind left) ≡ size)
    → (i : ℕ) → i ≤ length kinds → length (each_kind f i kinds) ≡ i * size
length_kinds f size kinds h zero l = omega arith
length_kinds f size kinds h (suc i) l =
    let last = h (slice_index_or kinds i 0) (remove kinds i) (length-remove kinds i (omega (arith, l))) in
    omega (arith, length-append (each_kind f i kinds) (f (slice_index_or kinds i 0) (remove kinds i)), last, length_kinds f size kinds h i (omega (arith, l)))

length_with_one : (f : ℕ → List ℕ → List Spots) (g : ℕ → ℕ) → ((kind : ℕ) (left : List ℕ) → length (f kind left) ≡ g (length left)) → (kinds : List ℕ)
    → length (each_kind f (length kinds) kinds) ≡ with_one g (length kinds)
length_with_one f g h [] = refl
length_with_one f g h (kind ∷ kinds) =
    length_kinds f (g (length kinds)) (kind ∷ kinds)
    (λ k left e. let same : length left ≡ length kinds = omega (arith, e) in h k left ∙ ap g same)
    (suc (length kinds)) (omega arith)

length_level : (loose n : ℕ) (kinds : List ℕ) (p places : ℕ) → length (of_spots loose n kinds p places) ≡ level n (length kinds) places
length_level loose zero [] p places = refl
length_level loose zero (kind ∷ kinds) p places = refl
length_level loose (suc n) kinds p places =
    length_each
    (λ q more. with_spot (spot loose q 0) (of_spots loose n kinds q more) ++ each_kind (λ kind left. with_spot (spot loose q kind) (of_spots loose n left q more)) (length kinds) kinds)
    (λ more. level n (length kinds) more + with_one (λ s. level n s more) (length kinds))
    (λ q more.
    let ticks = with_spot (spot loose q 0) (of_spots loose n kinds q more) in
    let others = each_kind (λ kind left. with_spot (spot loose q kind) (of_spots loose n left q more)) (length kinds) kinds in
    let each = length_with_one (λ kind left. with_spot (spot loose q kind) (of_spots loose n left q more)) (λ s. level n s more)
    (λ kind left. length-map (of_spots loose n left q more) (λ ps. spot loose q kind ∷ ps) ∙ length_level loose n left q more) kinds in
    let first = length-map (of_spots loose n kinds q more) (λ ps. spot loose q 0 ∷ ps) in
    omega (arith, length-append ticks others, first, length_level loose n kinds q more, each))
    p places

length_most : (loose n : ℕ) (kinds : List ℕ) (p places : ℕ) → length (of_at_most loose n kinds p places) ≡ most n (length kinds) places
unfolding of_at_most
length_most loose zero kinds p places = length_level loose zero kinds p places
length_most loose (suc n) kinds p places =
    omega (arith, length-append (of_at_most loose n kinds p places) (of_spots loose (suc n) kinds p places), length_most loose n kinds p places, length_level loose (suc n) kinds p places)

pub length_kinds_of : (loose : ℕ) → length (kinds_of loose) ≡ loose
length_kinds_of zero = refl
length_kinds_of (suc loose) = omega (arith, length-append (kinds_of loose) (suc loose ∷ []), length_kinds_of loose)

-- ---- from spot to spot, and from place to place

none_at_each : (f : ℕ → ℕ) → ((more : ℕ) → f more ≡ 0) → (places : ℕ) → at_each f places ≡ 0
none_at_each f h zero = refl
none_at_each f h (suc more) = omega (arith, h (suc more), none_at_each f h more)

-- Fewer spots than kinds.
no_level : (n r : ℕ) → n < r → (places : ℕ) → level n r places ≡ 0
no_level n zero l places = absurd (omega (arith, l))
no_level zero (suc r) l places = refl
no_level (suc n) (suc r) l places =
    none_at_each (λ more. level n (suc r) more + with_one (λ s. level n s more) (suc r))
    (λ more. omega (arith, no_level n (suc r) (omega (arith, l)) more, ap (λ k. suc r * k) (no_level n r (omega (arith, l)) more)))
    places

too_few : (n r : ℕ) → n < r → (places : ℕ) → most n r places ≡ 0
too_few zero r l places = no_level zero r l places
too_few (suc n) r l places = omega (arith, too_few n r (omega (arith, l)) places, no_level (suc n) r l places)

-- Without spots, all places are alike.
no_spots : (r places others : ℕ) → level zero r places ≡ level zero r others
no_spots zero places others = refl
no_spots (suc r) places others = refl

with_one_sum : (f g : ℕ → ℕ) (r : ℕ) → with_one (λ s. f s + g s) r ≡ with_one f r + with_one g r
with_one_sum f g zero = refl
with_one_sum f g (suc r) = omega arith

-- With one more place: a tick there first, or a loose event there first, or nothing there.
one_place_more : (n r places : ℕ) → most (suc n) r (suc places) ≡ most n r (suc places) + with_one (λ s. most n s (suc places)) r + most (suc n) r places
one_place_more zero r places = omega (arith, no_spots r (suc places) places)
one_place_more (suc n) r places =
    omega (arith, one_place_more n r places, with_one_sum (λ s. most n s (suc places)) (λ s. level (suc n) s (suc places)) r)

-- ---- as a product

shifted : (n k : ℕ) → n * ways (suc n) k ≡ ways n (suc k)
shifted n zero = omega arith
shifted n (suc k) = let longer = ap (λ m. m * (suc n + k)) (shifted n k) in omega (arith, longer)

one_loose_more : (n k : ℕ) → ways (suc n) (suc k) ≡ suc k * ways (suc n) k + ways n (suc k)
one_loose_more n k = omega (arith, shifted n k)

product_is : (all one other r low high whole : ℕ) → all ≡ r * one + other → whole ≡ low + high → all * low + r * (one * high) + other * high ≡ all * whole
product_is all one other r low high whole a w =
    let higher = ap (λ k. k * high) a in
    let split = ap (λ k. all * k) w in
    omega (arith, higher, split)

pascal : (n k : ℕ) → choose (suc n) (suc k) ≡ choose n k + choose n (suc k)
unfolding choose
pascal n k = refl

choose_none : (n : ℕ) → choose n 0 ≡ 1
unfolding choose
choose_none n = refl

-- More things than there are can't be chosen.
too_many : (n k : ℕ) → n < k → choose n k ≡ 0
unfolding choose
too_many n zero l = absurd (omega (arith, l))
too_many zero (suc k) l = refl
too_many (suc n) (suc k) l = rw (too_many n k (omega (arith, l)), too_many n (suc k) (omega (arith, l))) refl

-- There is one way to choose all things.
all_chosen : (k : ℕ) → choose k k ≡ 1
unfolding choose
all_chosen zero = refl
all_chosen (suc k) = omega (arith, pascal k k, all_chosen k, too_many k (suc k) (omega arith))

-- The number with this many places.
abbrev IsProduct : ℕ → Type 0
IsProduct places = (n ticks r : ℕ) → n ≡ ticks + r → most n r places ≡ ways places r * choose (places + r + ticks) ticks

-- Without places, there is only the schedule without spots.
no_place : (n r : ℕ) → most n r 0 ≡ level 0 r 0
no_place zero r = refl
no_place (suc n) r = omega (arith, no_place n r)

product_without_places : IsProduct 0
product_without_places n ticks zero e =
    let all : choose (0 + 0 + ticks) ticks ≡ choose ticks ticks = ap (λ k. choose k ticks) (omega arith) in
    omega (arith, no_place n 0, all, all_chosen ticks)
product_without_places n ticks (suc r) e =
    let none = ap (λ k. k * choose (0 + suc r + ticks) ticks) (sym (shifted 0 r)) in
    omega (arith, no_place n (suc r), none)

product_on : (places : ℕ) → IsProduct places → IsProduct (suc places)
product_on places before zero zero zero e = omega (arith, choose_none (suc places + 0 + 0))
product_on places before zero (suc ticks) r e = absurd (omega (arith, e))
product_on places before zero zero (suc r) e = absurd (omega (arith, e))
product_on places before (suc n) zero zero e = absurd (omega (arith, e))
product_on places before (suc n) (suc ticks) zero e =
    let here = product_on places before n ticks 0 (omega (arith, e)) in
    let behind = before (suc n) (suc ticks) 0 e in
    let more : choose (suc places + 0 + suc ticks) (suc ticks) ≡ choose (suc (suc places + 0 + ticks)) (suc ticks) = ap (λ k. choose k (suc ticks)) (omega arith) in
    let same : choose (places + 0 + suc ticks) (suc ticks) ≡ choose (suc places + 0 + ticks) (suc ticks) = ap (λ k. choose k (suc ticks)) (omega arith) in
    omega (arith, one_place_more n 0 places, here, behind, more, same, pascal (suc places + 0 + ticks) ticks)
product_on places before (suc n) zero (suc r) e =
    let less = product_on places before n 0 r (omega (arith, e)) in
    let behind = before (suc n) 0 (suc r) e in
    let none = too_few n (suc r) (omega (arith, e)) (suc places) in
    let one : suc r * most n r (suc places) ≡ suc r * (ways (suc places) r * 1) =
    ap (λ k. suc r * k) (less ∙ ap (λ k. ways (suc places) r * k) (choose_none (suc places + r + 0))) in
    let other : most (suc n) (suc r) places ≡ ways places (suc r) * 1 = behind ∙ ap (λ k. ways places (suc r) * k) (choose_none (places + suc r + 0)) in
    let whole = ap (λ k. ways (suc places) (suc r) * k) (choose_none (suc places + suc r + 0)) in
    omega (arith, one_place_more n (suc r) places, one, other, none, one_loose_more places r, whole)
product_on places before (suc n) (suc ticks) (suc r) e =
    let things : ℕ = suc places + suc r + ticks in
    let here : most n (suc r) (suc places) ≡ ways (suc places) (suc r) * choose things ticks = product_on places before n ticks (suc r) (omega (arith, e)) in
    let less : most n r (suc places) ≡ ways (suc places) r * choose things (suc ticks) =
    product_on places before n (suc ticks) r (omega (arith, e)) ∙ ap (λ k. ways (suc places) r * choose k (suc ticks)) (omega arith) in
    let behind : most (suc n) (suc r) places ≡ ways places (suc r) * choose things (suc ticks) =
    before (suc n) (suc ticks) (suc r) e ∙ ap (λ k. ways places (suc r) * choose k (suc ticks)) (omega arith) in
    let more : choose (suc places + suc r + suc ticks) (suc ticks) ≡ choose things ticks + choose things (suc ticks) = ap (λ k. choose k (suc ticks)) (omega arith) ∙ pascal things ticks in
    let one = ap (λ k. suc r * k) less in
    let whole = product_is (ways (suc places) (suc r)) (ways (suc places) r) (ways places (suc r)) (suc r) (choose things ticks) (choose things (suc ticks)) (choose (suc places + suc r + suc ticks) (suc ticks))
    (one_loose_more places r) more in
    omega (arith, one_place_more n (suc r) places, here, one, behind, whole)

product : (places : ℕ) → IsProduct places
product zero = product_without_places
product (suc places) = product_on places (product places)

pub size : (upto ticks loose : ℕ) → length (family upto ticks loose) ≡ ways upto loose * choose (upto + loose + ticks) ticks
size upto ticks loose =
    length_most loose (ticks + loose) (kinds_of loose) 0 upto ∙ ap (λ r. most (ticks + loose) r upto) (length_kinds_of loose) ∙ product upto (ticks + loose) ticks loose refl

-- ---- from each number of choices to the next

absorbed : (n k : ℕ) → suc k * choose (suc n) (suc k) ≡ suc n * choose n k
unfolding choose
absorbed zero zero = refl
absorbed zero (suc k) = omega arith
absorbed (suc n) zero =
    let one = absorbed n zero in omega (arith, one)
absorbed (suc n) (suc k) =
    let here = absorbed n (suc k) in
    let less = absorbed n k in
    let wider : choose (suc n) (suc k) ≡ choose n k + choose n (suc k) = refl in
    let widest : choose (suc (suc n)) (suc (suc k)) ≡ choose (suc n) (suc k) + choose (suc n) (suc (suc k)) = refl in
    omega (arith, here, less, wider, widest)

pub one_choice_more : (of chosen : ℕ) → (chosen + 1) * choose (of + (chosen + 1)) (chosen + 1) ≡ (of + chosen + 1) * choose (of + chosen) chosen
one_choice_more of chosen =
    let more : chosen + 1 ≡ suc chosen = omega arith in
    let things : of + (chosen + 1) ≡ suc (of + chosen) = omega arith in
    let larger : choose (of + (chosen + 1)) (chosen + 1) ≡ choose (suc (of + chosen)) (suc chosen) = ap (λ n. choose n (chosen + 1)) things ∙ ap (choose (suc (of + chosen))) more in
    let step = absorbed (of + chosen) chosen in
    rw larger (omega (arith, step))

pub no_choice : (of : ℕ) → 1 ≡ choose (of + 0) 0
no_choice of = sym (choose_none (of + 0))

-- One more choice and one more thing leave at least as many ways.
more_ways : (of k : ℕ) → choose (of + k) k ≤ choose (of + suc k) (suc k)
more_ways of k =
    let things : choose (of + suc k) (suc k) ≡ choose (suc (of + k)) (suc k) = ap (λ n. choose n (suc k)) (omega arith) in
    omega (arith, things, pascal (of + k) k)

-- What doesn't decrease from any number to the next doesn't decrease.
rises : (f : ℕ → ℕ) → ((k : ℕ) → f k ≤ f (suc k)) → (k more : ℕ) → k ≤ more → f k ≤ f more
rises f step k zero l = let same : k ≡ 0 = omega (arith, l) in let e = ap f same in omega (arith, e)
rises f step k (suc more) l =
    ⊎_elim
    (λ (fewer : k < suc more). let before = rises f step k more (omega (arith, fewer)) in omega (arith, before, step more))
    (λ (all : suc more ≤ k). let same : k ≡ suc more = omega (arith, l, all) in let e = ap f same in omega (arith, e))
    (cases_lt k (suc more))

pub grows : (of k more : ℕ) → k ≤ more → choose (of + k) k ≤ choose (of + more) more
grows of k more l = rises (λ n. choose (of + n) n) (more_ways of) k more l

pub one_at_least : (of chosen : ℕ) → 1 ≤ choose (of + chosen) chosen
one_at_least of chosen = omega (arith, grows of 0 chosen (omega arith), choose_none (of + 0))

-- ---- what the code computes

-- The number of ways with one more choice: the division is exact.
pub next_is : (of chosen size : ℕ) → size ≡ choose (of + chosen) chosen → size * (of + (chosen + 1)) / (chosen + 1) ≡ choose (of + (chosen + 1)) (chosen + 1)
next_is of chosen size is =
    let step : size * (of + (chosen + 1)) ≡ (of + chosen + 1) * size = omega arith in
    let product : size * (of + (chosen + 1)) ≡ (chosen + 1) * choose (of + (chosen + 1)) (chosen + 1) = step ∙ ap (λ n. (of + chosen + 1) * n) is ∙ sym (one_choice_more of chosen) in
    ap (λ n. n / (chosen + 1)) product ∙ mul-div_cancel_left (choose (of + (chosen + 1)) (chosen + 1)) (omega arith)

-- ---- with loose events

pub no_ways : (loose : ℕ) → 0 < loose → ways 0 loose ≡ 0
no_ways zero l = absurd (omega (arith, l))
no_ways (suc loose) l = sym (shifted 0 loose) ∙ omega arith

pub ways_grow : (n k more : ℕ) → 1 ≤ n → k ≤ more → ways n k ≤ ways n more
ways_grow n k more some l = rises (ways n) (λ m. let larger : ways n m * 1 ≤ ways n m * (n + m) = mul-le-mul_left (ways n m) (omega (arith, some)) in omega (arith, larger)) k more l

-- Without places there is no loose event.
some_ways : (upto loose : ℕ) → (upto ≡ 0 → loose ≡ 0) → 1 ≤ ways upto loose
some_ways upto zero placed = omega arith
some_ways zero (suc loose) placed = let none = placed refl in absurd (omega (arith, none))
some_ways (suc n) (suc loose) placed = omega (arith, ways_grow (suc n) 0 (suc loose) (omega arith) (omega arith))

pub none_fits : (upto ticks loose : ℕ) → upto ≡ 0 → 0 < loose → 0 ≡ length (family upto ticks loose)
none_fits upto ticks loose none some =
    sym (size upto ticks loose ∙ ap (λ n. n * choose (upto + loose + ticks) ticks) (ap (λ n. ways n loose) none ∙ no_ways loose some) ∙ omega arith)

-- The sizes after one loose event after another.
pub no_loose : (upto loose ticks made : ℕ) → made ≡ choose (upto + loose + ticks) ticks → made ≡ ways upto 0 * choose (upto + loose + ticks) ticks
no_loose upto loose ticks made is = omega (arith, is)

pub loose_more : (upto loose ticks before made : ℕ) → made ≡ ways upto before * choose (upto + loose + ticks) ticks
    → made * (upto + before) ≡ ways upto (before + 1) * choose (upto + loose + ticks) ticks
loose_more upto loose ticks before made is =
    let step : before + 1 ≡ suc before = omega arith in
    let more : ways upto (before + 1) ≡ ways upto (suc before) = ap (ways upto) step in
    let larger = ap (λ n. n * (upto + before)) is in
    let whole = ap (λ n. n * choose (upto + loose + ticks) ticks) more in
    omega (arith, larger, whole)

pub all_loose : (upto ticks loose before made : ℕ) → before ≡ loose → made ≡ ways upto before * choose (upto + loose + ticks) ticks → made ≡ length (family upto ticks loose)
all_loose upto ticks loose before made all is =
    is ∙ ap (λ n. ways upto n * choose (upto + loose + ticks) ticks) all ∙ sym (size upto ticks loose)

-- If a factor, or a product of the first factors, is too large, so is the size.
pub choices_are_over : (upto ticks loose limit : ℕ) → (upto ≡ 0 → loose ≡ 0) → (choose (upto + loose + ticks) ticks ≤ limit → ⊥) → length (family upto ticks loose) ≤ limit → ⊥
choices_are_over upto ticks loose limit placed large within =
    let c : ℕ = choose (upto + loose + ticks) ticks in
    let some : 1 * c ≤ ways upto loose * c = mul-le-mul_right c (some_ways upto loose placed) in
    large (omega (arith, size upto ticks loose, some, within))

pub product_is_over : (upto ticks loose before made limit : ℕ) → (upto ≡ 0 → loose ≡ 0) → before < loose → made ≡ ways upto before * choose (upto + loose + ticks) ticks
    → limit < 2 ^ 64 → (made * (upto + before) < 2 ^ 64 → ⊥) → length (family upto ticks loose) ≤ limit → ⊥
product_is_over upto ticks loose before made limit placed short is low large within =
    let c : ℕ = choose (upto + loose + ticks) ticks in
    let some : 1 ≤ upto = elim (cases_lt 0 upto) [
      | inl more ↦ more
      | inr none ↦ let e = placed (omega (arith, none)) in absurd (omega (arith, e, short))
    ] in
    let larger : ways upto (before + 1) * c ≤ ways upto loose * c = mul-le-mul_right c (ways_grow upto (before + 1) loose some (omega (arith, short))) in
    large (omega (arith, loose_more upto loose ticks before made is, larger, size upto ticks loose, low, within))
