-- Numbers by their limbs: the sum of two numbers.
use Rattle.std.proofs.Common.{◌≡◌, ℕ, zero, suc, ◌+◌, ◌-◌, ◌*◌, ◌^◌, ◌/◌, ◌%◌, ◌<◌, ◌≤◌, List, [], ◌∷◌, ◌++◌, length, drop, replicate, get_or, ◌==◌, inl, inr, refl, ap, sym, arith, ◌∙◌, mul-zero, pow-suc, add-one, take, length-append}
use Rattle.std.proofs.Math.ListN.{set}
use Rattle.std.proofs.lemmas.Bool.{cases_lt}
use Rattle.std.proofs.lemmas.Bool.Decides.{nat_tests}
use Rattle.std.proofs.lemmas.List.{at_drop_more, drop_all, get_or_past, get_or_push, length_push, nil_from_length, take_all}
use Rattle.counting.specs.Numbers.{AreBelowBase, AreLimbs, base, number_of}

-- With another limb at a place.
number_set : (ls : List ℕ) (i l : ℕ) → i < length ls → number_of (set ls i l) + base ^ i * get_or ls i 0 ≡ number_of ls + base ^ i * l
number_set [] i l lt = absurd (omega arith)
number_set (k ∷ ls) zero l lt = omega arith
number_set (k ∷ ls) (suc i) l lt =
    omega (arith, number_set ls i l (omega arith), ap (λ p. p * l) (pow-suc base i), ap (λ p. p * get_or ls i 0) (pow-suc base i))

number_append : (ks ls : List ℕ) → number_of (ks ++ ls) ≡ number_of ks + base ^ length ks * number_of ls
number_append [] ls = omega arith
number_append (k ∷ ks) ls = omega (arith, number_append ks ls, ap (λ p. p * number_of ls) (pow-suc base (length ks)))

pub number_push : (ls : List ℕ) (l : ℕ) → number_of (ls ++ l ∷ []) ≡ number_of ls + base ^ length ls * l
number_push ls l = number_append ls (l ∷ []) ∙ ap (λ n. number_of ls + base ^ length ls * n) {x = l + base * 0} {y = l} (omega arith)

number_zeros : (n : ℕ) → number_of (replicate n 0) ≡ 0
number_zeros zero = refl
number_zeros (suc n) = omega (arith, number_zeros n)

-- Past the last limb there are none.
pub none_past : (ls : List ℕ) (i : ℕ) → length ls ≤ i → number_of (drop i ls) ≡ 0
none_past ls i past = ap number_of (drop_all i ls past)

-- The limb at a place, and those after it.
number_from : (ls : List ℕ) (i : ℕ) → number_of (drop i ls) ≡ get_or ls i 0 + base * number_of (drop (i + 1) ls)
number_from ls i =
    elim (cases_lt i (length ls)) [
      | inl within ↦ at_drop_more number_of ls i 0 within
      | inr past ↦ omega (arith, get_or_past ls i 0 past, none_past ls i past, none_past ls (i + 1) (omega arith))
    ]

carried : (place next number new limb other carry low up rest total : ℕ) → next ≡ base * place → limb + other + carry ≡ low + base * up → new + place * limb ≡ number + place * low
    → number + place * (carry + (other + base * rest)) ≡ total → new + next * (up + rest) ≡ total
carried place next number new limb other carry low up rest total pow split set before =
    omega (arith, set, before, ap (λ q. q * (up + rest)) pow, ap (λ q. place * q) split)

-- One more place.
pub place_added : (ls others : List ℕ) (place carry other total : ℕ) → place < length ls → other ≡ get_or others place 0
    → number_of ls + base ^ place * (carry + number_of (drop place others)) ≡ total
    → number_of (set ls place ((get_or ls place 0 + other + carry) % base)) + base ^ (place + 1) * ((get_or ls place 0 + other + carry) / base + number_of (drop (place + 1) others)) ≡ total
place_added ls others place carry other total within is before =
    let sum : ℕ = get_or ls place 0 + other + carry in
    let rest = number_of (drop (place + 1) others) in
    let from : number_of (drop place others) ≡ other + base * rest = omega (arith, is, number_from others place) in
    let pow : base ^ (place + 1) ≡ base * base ^ place = ap (λ n. base ^ n) (add-one place) ∙ omega (arith, pow-suc base place) in
    carried (base ^ place) (base ^ (place + 1)) (number_of ls) _ (get_or ls place 0) other carry (sum % base) (sum / base) rest total pow (omega arith)
    (number_set ls place (sum % base) within)
    (ap (λ n. number_of ls + base ^ place * (carry + n)) (sym from) ∙ before)

-- A limb, also past the last one.
pub limb_below : (ls : List ℕ) (i : ℕ) → AreBelowBase ls → get_or ls i 0 < base
limb_below ls i below = elim (cases_lt i (length ls)) [ inl within ↦ below i 0 within | inr past ↦ omega (arith, get_or_past ls i 0 past) ]

-- With zeros in front, it is the same number.
pub number_resized : (ls resized : List ℕ) (len zeros : ℕ) → length ls ≤ len → resized ≡ take len ls ++ replicate zeros 0 → number_of resized ≡ number_of ls
number_resized ls resized len zeros all is =
    let none = ap (λ n. base ^ length (take len ls) * n) (number_zeros zeros) in
    ap number_of is ∙ omega (arith, number_append (take len ls) (replicate zeros 0), ap number_of (take_all len ls all), none, mul-zero (base ^ length (take len ls)))

-- Past the last place, there is only the carry.
pub all_added : (ls others : List ℕ) (place carry total : ℕ) → length ls ≡ place → length others ≤ place → number_of ls + base ^ place * (carry + number_of (drop place others)) ≡ total
    → number_of (ls ++ carry ∷ []) ≡ total
all_added ls others place carry total long past is =
    omega (arith, is, number_push ls carry, ap (λ n. base ^ n * carry) long, ap (λ n. base ^ place * (carry + n)) (none_past others place past))

pub none_carried : (ls : List ℕ) (carry total : ℕ) → carry ≤ 0 → number_of (ls ++ carry ∷ []) ≡ total → number_of ls ≡ total
none_carried ls carry total none is =
    let nothing : carry ≡ 0 = omega (arith, none) in
    omega (arith, is, number_push ls carry, ap (λ n. base ^ length ls * n) nothing, mul-zero (base ^ length ls))

pub ruleset sum_rules = (all_added, none_carried, number_resized)

-- ---- what a number is

limb_within : (ls : List ℕ) (i : ℕ) → get_or ls i 0 ≤ number_of ls
limb_within [] i = omega arith
limb_within (l ∷ ls) zero = omega arith
limb_within (l ∷ ls) (suc i) = omega (arith, limb_within ls i)

pub some_number : (ls : List ℕ) → AreLimbs ls → 0 < length ls → 0 < number_of ls
some_number ls are some = omega (arith, are.top some, limb_within ls (length ls - 1))

-- A number below the base has only the lowest limb.
pub is_low : (low n : ℕ) (ls : List ℕ) → n < base → AreLimbs ls → low ≡ n → (length ls == 0) ≡ (number_of (low ∷ ls) == n)
is_low low n [] small are is = grind (arith, nat_tests)
is_low low n (l ∷ ls) small are is = let some = some_number (l ∷ ls) are (omega arith) in grind (arith, nat_tests)

-- ---- from the top limb down

-- The part of a number from a place on.
pub part_more : (rest ls : List ℕ) (limb part : ℕ) → ls ≡ rest ++ limb ∷ [] → number_of ls + base ^ length ls * part ≡ number_of rest + base ^ length rest * (limb + base * part)
part_more rest ls limb part is =
    let long : length ls ≡ suc (length rest) = omega (arith, ap length is, length-append rest (limb ∷ [])) in
    omega (arith, ap number_of is, number_push rest limb, ap (λ n. base ^ n * part) long, ap (λ p. p * part) (pow-suc base (length rest)))

pub part_all : (ls : List ℕ) (part : ℕ) → length ls ≡ 0 → number_of ls + base ^ length ls * part ≡ part
part_all ls part none = rw (nil_from_length ls none) (omega arith)

pub top_some : (rest ls : List ℕ) (limb : ℕ) → AreLimbs ls → ls ≡ rest ++ limb ∷ [] → 0 < limb
top_some rest ls limb are is =
    let long = ap length is ∙ length_push rest limb in
    omega (arith, are.top (omega (arith, long)), ap (λ ks. get_or ks (length ls - 1) 0) is, get_or_push rest limb 0 (length ls - 1) (omega (arith, long)))
