-- The events of a schedule: as a whole, and from the front.
use Rattle.std.proofs.Common.{◌≡◌, ℕ, zero, suc, ◌+◌, ◌-◌, ◌≤◌, refl, ap, ap₂, sym, ◌∙◌, subst, arith, List, [], ◌∷◌, ◌++◌, length, map, take, drop, replicate, append_assoc}
use Rattle.std.specs.List.{All}
use Rattle.std.specs.List.Sorted.{IsNonDecreasing}
use Rattle.std.proofs.lemmas.List.{length-append, length-replicate, length-take-le, take-append-drop, take_at, drop_at, take-append-le, drop-append-le, take-replicate, drop-replicate}
use Rattle.posix.specs.declared.event.Event.{Event}
use Rattle.schedules.specs.Families.{RisesFrom, Spots, place_of}
use Rattle.schedules.specs.Schedules.{put_at, scheduled, from_front}
use Rattle.schedules.proofs.FamilyLemmas.{rises, rises_lower}

-- ---- one inserted event

length_put : (p : ℕ) (x : Event) (xs : List Event) → length (take p xs ++ x ∷ drop p xs) ≡ length xs + 1
length_put p x xs =
    let cut = ap length (take-append-drop p xs) in
    omega (arith, cut, length-append (take p xs) (drop p xs), length-append (take p xs) (x ∷ drop p xs))

-- After the first events.
put_behind : (p : ℕ) (x : Event) (before xs : List Event) → length before ≡ p → take p (before ++ xs) ++ x ∷ drop p (before ++ xs) ≡ before ++ x ∷ xs
put_behind p x before xs reach = ap₂ (λ ys zs. ys ++ x ∷ zs) (take_at before xs p reach) (drop_at before xs p reach)

-- One event for each spot.
pub length_scheduled : (loose events : List Event) (ps : Spots) → length (scheduled loose events ps) ≡ length events + length ps
unfolding scheduled
length_scheduled loose events [] = omega arith
length_scheduled loose events (q ∷ ps) =
    let longer = length_put (place_of (length loose) q) (put_at loose q) (scheduled loose events ps) in
    omega (arith, longer, length_scheduled loose events ps)

-- ---- from the front

front_from : (loose : List Event) (i high : ℕ) (before events : List Event) (ps : Spots) → length before ≡ i → suc (i + length events) ≡ high → RisesFrom (length loose) i high ps
    → scheduled loose (before ++ events) ps ≡ before ++ from_front loose i events ps
unfolding scheduled from_front
front_from loose i high before events [] l e r = refl
front_from loose i high before events (q ∷ ps) l e r =
    let p : ℕ = place_of (length loose) q in
    let x = put_at loose q in
    let n : ℕ = p - i in
    let front = take n events in
    let back = drop n events in
    let cut : front ++ back ≡ events = take-append-drop n events in
    let long : length front ≡ n = length-take-le n events (omega (arith, e, r.0, r.1)) in
    let reach : length (before ++ front) ≡ p = omega (arith, length-append before front, long, l, r.0) in
    let whole = ap length cut in
    let same : (before ++ front) ++ back ≡ before ++ events = append_assoc before front back ∙ ap (λ xs. before ++ xs) cut in
    let rest = front_from loose p high (before ++ front) back ps reach (omega (arith, whole, length-append front back, long, e, r.0)) r.2 in
    ap (λ xs. take p xs ++ x ∷ drop p xs) (ap (λ xs. scheduled loose xs ps) (sym same) ∙ rest)
    ∙ put_behind p x (before ++ front) (from_front loose p back ps) reach
    ∙ append_assoc before front (x ∷ from_front loose p back ps)

pub front : (loose events : List Event) (ps : Spots) → IsNonDecreasing (map (place_of (length loose)) ps) → All (λ q. place_of (length loose) q ≤ length events) ps
    → scheduled loose events ps ≡ from_front loose 0 events ps
front loose events ps up within =
    front_from loose 0 (suc (length events)) [] events ps refl (omega arith)
    (rises (length loose) 0 (suc (length events)) ps up (λ k d l. let reach = within k d l in omega (arith, reach)) (λ k d l. omega arith))

-- ---- event by event, and run by run

-- An event before all insertions.
pub event_next : (loose : List Event) (p high : ℕ) (x : Event) (events : List Event) (ps : Spots) → RisesFrom (length loose) (p + 1) high ps
    → from_front loose p (x ∷ events) ps ≡ x ∷ from_front loose (p + 1) events ps
unfolding from_front
event_next loose p high x events [] r = refl
event_next loose p high x events (q ∷ ps) r =
    let place = place_of (length loose) q in
    let later : place_of (length loose) q - p ≡ suc (place_of (length loose) q - (p + 1)) = omega (arith, r.0) in
    ap (λ n. take n (x ∷ events) ++ put_at loose q ∷ from_front loose place (drop n (x ∷ events)) ps) later

-- A run of one event.
pub run_next : (loose : List Event) (p n high : ℕ) (x : Event) (events : List Event) (ps : Spots) → RisesFrom (length loose) (p + n) high ps
    → from_front loose p (replicate n x ++ events) ps ≡ replicate n x ++ from_front loose (p + n) events ps
run_next loose p zero high x events ps r = let same : p ≡ p + 0 = omega arith in ap (λ i. from_front loose i events ps) same
run_next loose p (suc n) high x events ps r =
    let same : p + 1 + n ≡ p + suc n = omega arith in
    event_next loose p high x (replicate n x ++ events) ps (rises_lower (length loose) (p + suc n) (p + 1) high ps (omega arith) r)
    ∙ ap (λ es. x ∷ es) (run_next loose (p + 1) n high x events ps (subst (λ low. RisesFrom (length loose) low high ps) (sym same) r))
    ∙ ap (λ i. x ∷ replicate n x ++ from_front loose i events ps) same

-- An insertion within a run of one event, and the events before it.
pub put_among : (loose : List Event) (p n : ℕ) (x : Event) (events : List Event) (q : ℕ) (ps : Spots) → place_of (length loose) q - p ≤ n
    → from_front loose p (replicate n x ++ events) (q ∷ ps)
    ≡ replicate (place_of (length loose) q - p) x ++ put_at loose q ∷ from_front loose (place_of (length loose) q) (replicate (n - (place_of (length loose) q - p)) x ++ events) ps
unfolding from_front
put_among loose p n x events q ps within =
    let place : ℕ = place_of (length loose) q in
    let m : ℕ = place - p in
    let short : m ≤ length (replicate n x) = omega (arith, length-replicate n x, within) in
    ap₂ (λ front rest. front ++ put_at loose q ∷ from_front loose place rest ps)
    (take-append-le m (replicate n x) events short ∙ take-replicate m n x within)
    (drop-append-le m (replicate n x) events short ∙ ap (λ xs. xs ++ events) (drop-replicate m n x))
