-- The last place that can be raised is raised, and those after it are set to the same place.
use Rattle.std.proofs.Common.{◌≡◌, ℕ, zero, suc, ◌+◌, ◌<◌, ◌≤◌, ap, arith, ◌∙◌, lt-ltb, drop-drop, List, [], ◌∷◌, ◌++◌, length, drop, take, replicate, slice_index, Some, None}
use Rattle.std.proofs.lemmas.List.{append-nil, drop_all, length-drop, length-take-le}
use borrow.Rule.Slice.PartMut.{put_mid}
use Rattle.schedules.specs.Families.{Spots}
use Rattle.schedules.specs.Walks.{all_at, next_of_ticks, put_before}

-- The place at this index can be raised, and none after it can.
pub goes_on : (upto i n : ℕ) (ps : Spots) → i < length ps → i + n ≡ length ps → slice_index ps i + 1 < upto → next_of_ticks upto (drop (suc i) ps) ≡ None
    → next_of_ticks upto ps ≡ Some (take i ps ++ replicate n (slice_index ps i + 1))
goes_on upto i n [] within sum early none = grind (arith)
goes_on upto zero n (p ∷ ps) within sum early none =
    let all : suc (length ps) ≡ n = omega (arith, sum) in
    ap (put_before p (all_at upto (suc (length ps)) (p + 1))) none ∙ rw (lt-ltb (p + 1) upto early) (ap (λ m. Some (replicate m (p + 1))) all)
goes_on upto (suc i) n (p ∷ ps) within sum early none =
    ap (put_before p (all_at upto (suc (length ps)) (p + 1))) (goes_on upto i n ps (omega (arith, within)) (omega (arith, sum)) early none)

-- Then the places from this index on are equal.
pub same_from : (i n q : ℕ) (ps qs : Spots) → i + n ≡ length ps → qs ≡ replicate (length (take n (drop i ps))) q → put_mid i n ps qs ≡ take i ps ++ replicate n q
same_from i n q ps qs sum are =
    let none : drop n (drop i ps) ≡ [] = drop-drop n i ps ∙ drop_all (i + n) ps (omega (arith, sum)) in
    let all : length (take n (drop i ps)) ≡ n = length-take-le n (drop i ps) (omega (arith, length-drop i ps, sum)) in
    ap (λ (rest : Spots). take i ps ++ (qs ++ rest)) none ∙ ap (λ (l : Spots). take i ps ++ l) (append-nil qs ∙ are ∙ ap (λ m. replicate m q) all)
