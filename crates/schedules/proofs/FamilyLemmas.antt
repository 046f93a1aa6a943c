-- Which schedules a family has, and in which order.
use Rattle.std.proofs.Common.{◌≡◌, ◌≢◌, ◌↔◌, ℕ, zero, suc, ◌+◌, ◌<◌, ◌≤◌, ◌==◌, Bool, true, false, cond, inl, inr, refl, sym, ap, ◌∙◌, subst, arith, ⊎_elim, List, [], ◌∷◌, ◌++◌, length, map, get_or, take, drop}
use Rattle.std.proofs.Math.Nat.{add-mul, one-mul}
use Rattle.std.specs.List.{All, AllPairs, Contains, count_by, remove}
use Rattle.std.specs.List.Sorted.{IsNonDecreasing}
use Rattle.std.proofs.lemmas.Bool.{cases_lt, eq-eqb, ne_eqb}
use Rattle.std.proofs.lemmas.Bool.Decides.{eqb_tells}
use Rattle.std.proofs.lemmas.List.{length-map, get_or-map}
use Rattle.std.proofs.lemmas.List.Edits.{length-remove}
use Rattle.std.proofs.lemmas.List.Kept.{AllPairs-cons}
use Rattle.std.proofs.lemmas.List.Elements.{All-nil, All-cons, All-head, All-tail, All-append, All-map, All-push, All-take, All-drop, All-weaker, All-contains, Contains-append_left, Contains-append_right}
use Rattle.std.proofs.lemmas.List.Quantifiers.{all_pairs_push, all_pairs_remove}
use Rattle.std.proofs.lemmas.List.Sums.{sum_by-cons, sum_by_push, sum_by-remove}
use Rattle.std.proofs.lemmas.Nat.{div-mul-add, mod-mul-add, div-add-mod', mod_below, mul-le}
use Rattle.schedules.specs.Families.{Spots, spot, place_of, kind_of, with_spot, each_kind, from_each, of_spots, of_at_most, kinds_of, family, IsSchedule, IsEarlier, IsBefore, RisesFrom}

-- ---- spots

pub place_of_spot : (loose p kind : ℕ) → kind ≤ loose → place_of loose (spot loose p kind) ≡ p
place_of_spot loose p kind l = div-mul-add p (suc loose) kind (omega arith)

pub kind_of_spot : (loose p kind : ℕ) → kind ≤ loose → kind_of loose (spot loose p kind) ≡ kind
kind_of_spot loose p kind l = mod-mul-add p (suc loose) kind (omega arith)

-- A spot by its place and its kind.
pub spot_is : (loose q : ℕ) → spot loose (place_of loose q) (kind_of loose q) ≡ q
spot_is loose q = div-add-mod' q (suc loose)

pub kind_within : (loose q : ℕ) → kind_of loose q ≤ loose
kind_within loose q = let l = mod_below q (suc loose) (omega arith) in omega arith

-- The spots of the next place come after all kinds of this one.
pub spot_next : (loose p : ℕ) → spot loose (p + 1) 0 ≡ spot loose p 0 + suc loose
spot_next loose p = omega (arith, add-mul p 1 (suc loose), one-mul (suc loose))

spot_up : (loose p q : ℕ) → p ≤ q → spot loose p 0 ≤ spot loose q 0
spot_up loose p q l = omega (arith, mul-le p (suc loose) q (suc loose) l (omega arith))

-- ---- places that don't decrease, by recursion

pub rises_lower : (loose low lower high : ℕ) (ps : Spots) → lower ≤ low → RisesFrom loose low high ps → RisesFrom loose lower high ps
rises_lower loose low lower high [] l r = tt
rises_lower loose low lower high (q ∷ ps) l r = let from : lower ≤ place_of loose q = omega (arith, l, r.0) in (from, r.1, r.2)

pub rises : (loose low high : ℕ) (ps : Spots) → IsNonDecreasing (map (place_of loose) ps) → All (λ q. place_of loose q < high) ps → All (λ p. low ≤ p) (map (place_of loose) ps)
    → RisesFrom loose low high ps
rises loose low high [] up below above = tt
rises loose low high (q ∷ ps) up below above = (
  All-head (λ p. low ≤ p) (place_of loose q) (map (place_of loose) ps) above,
  All-head (λ r. place_of loose r < high) q ps below,
  rises loose (place_of loose q) high ps (λ i j d l m. up (suc i) (suc j) d (omega arith) (omega arith)) (All-tail (λ r. place_of loose r < high) q ps below)
      (λ k d l. up 0 (suc k) d (omega arith) (omega arith)),
)

above_low : (loose low high : ℕ) (ps : Spots) → RisesFrom loose low high ps → All (λ p. low ≤ p) (map (place_of loose) ps)
above_low loose low high [] r = All-nil (λ p. low ≤ p)
above_low loose low high (q ∷ ps) r =
    All-cons (λ p. low ≤ p) (place_of loose q) (map (place_of loose) ps) r.0 (above_low loose low high ps (rises_lower loose (place_of loose q) low high ps r.0 r.2))

pub below_high : (loose low high : ℕ) (ps : Spots) → RisesFrom loose low high ps → All (λ q. place_of loose q < high) ps
below_high loose low high [] r = All-nil (λ q. place_of loose q < high)
below_high loose low high (q ∷ ps) r = All-cons (λ s. place_of loose s < high) q ps r.1 (below_high loose (place_of loose q) high ps r.2)

pub rises_up : (loose low high : ℕ) (ps : Spots) → RisesFrom loose low high ps → IsNonDecreasing (map (place_of loose) ps)
rises_up loose low high [] r i j d l m = absurd (omega (arith, m))
rises_up loose low high (q ∷ ps) r zero zero d l m = omega arith
rises_up loose low high (q ∷ ps) r zero (suc j) d l m = above_low loose (place_of loose q) high ps r.2 j d (omega (arith, m))
rises_up loose low high (q ∷ ps) r (suc i) zero d l m = absurd (omega (arith, l))
rises_up loose low high (q ∷ ps) r (suc i) (suc j) d l m = rises_up loose (place_of loose q) high ps r.2 i j d (omega (arith, l)) (omega (arith, m))

-- A spot of a place comes before those that rise from there.
rises_at : (loose low p high kind : ℕ) (ps : Spots) → kind ≤ loose → low ≤ p → p < high → RisesFrom loose p high ps → RisesFrom loose low high (spot loose p kind ∷ ps)
rises_at loose low p high kind ps k l m r = subst (λ q. (low ≤ q) × (q < high) × RisesFrom loose q high ps) (sym (place_of_spot loose p kind k)) (l, m, r)

-- ---- kinds that are left

pub All-remove : (P : ℕ → Type 0) (xs : List ℕ) (i : ℕ) → All P xs → All P (remove xs i)
All-remove P xs i h = All-append P (take i xs) (drop (suc i) xs) (All-take P i xs h) (All-drop P (suc i) xs h)

-- Kinds of loose events, rising.
pub record AreKinds (loose : ℕ) (kinds : List ℕ) : Type 0 where
  pub least : All (λ k. 1 ≤ k) kinds
  pub most : All (λ k. k ≤ loose) kinds
  pub rise : AllPairs (λ k l. k < l) kinds

pub kinds_left : (loose : ℕ) (kinds : List ℕ) (i : ℕ) → i < length kinds → AreKinds loose kinds → AreKinds loose (remove kinds i)
kinds_left loose kinds i l a = record {
  least = All-remove (λ k. 1 ≤ k) kinds i a.least;
  most = All-remove (λ k. k ≤ loose) kinds i a.most;
  rise = all_pairs_remove (λ j k. j < k) kinds i l a.rise;
}

pub all_kinds : (loose : ℕ) → AreKinds loose (kinds_of loose)
all_kinds zero = record { least = All-nil (λ k. 1 ≤ k); most = All-nil (λ k. k ≤ 0); rise = λ i j d l m. absurd (omega (arith, m)) }
all_kinds (suc loose) =
    let a = all_kinds loose in record {
      least = All-push (λ k. 1 ≤ k) (kinds_of loose) (suc loose) a.least (omega arith);
      most = All-push (λ k. k ≤ suc loose) (kinds_of loose) (suc loose) (All-weaker (λ k. k ≤ loose) (λ k. k ≤ suc loose) (λ k l. omega arith) (kinds_of loose) a.most) (omega arith);
      rise = all_pairs_push (λ j k. j < k) (kinds_of loose) (suc loose) a.rise (λ k d l. let m = a.most k d l in omega arith);
    }

-- ---- properties of all schedules

pub each_kind_all : (P : Spots → Type 0) (f : ℕ → List ℕ → List Spots) (kinds : List ℕ) (n : ℕ) → ((i : ℕ) → i < n → All P (f (get_or kinds i 0) (remove kinds i)))
    → All P (each_kind f n kinds)
each_kind_all P f kinds zero h = All-nil P
each_kind_all P f kinds (suc n) h =
    All-append P (each_kind f n kinds) (f (get_or kinds n 0) (remove kinds n)) (each_kind_all P f kinds n (λ i l. h i (omega arith))) (h n (omega arith))

pub from_each_all : (P : Spots → Type 0) (f : ℕ → ℕ → List Spots) (low high : ℕ) → ((q more : ℕ) → low ≤ q → q < high → q + more ≡ high → All P (f q more))
    → (p places : ℕ) → low ≤ p → p + places ≡ high → All P (from_each f p places)
from_each_all P f low high h p zero l e = All-nil P
from_each_all P f low high h p (suc more) l e =
    All-append P (f p (suc more)) (from_each f (p + 1) more) (h p (suc more) l (omega (arith, e)) e) (from_each_all P f low high h (p + 1) more (omega arith) (omega (arith, e)))

-- Those with a tick in front at this place, with a loose event of this kind, with any loose event, with either.
abbrev pub ticks_at : ℕ → ℕ → List ℕ → ℕ → ℕ → List Spots
ticks_at loose n kinds q more = with_spot (spot loose q 0) (of_spots loose n kinds q more)

abbrev pub at_kind : ℕ → ℕ → ℕ → ℕ → ℕ → List ℕ → List Spots
at_kind loose n q more kind left = with_spot (spot loose q kind) (of_spots loose n left q more)

abbrev pub events_at : ℕ → ℕ → List ℕ → ℕ → ℕ → List Spots
events_at loose n kinds q more = each_kind (at_kind loose n q more) (length kinds) kinds

abbrev pub at_place : ℕ → ℕ → List ℕ → ℕ → ℕ → List Spots
at_place loose n kinds q more = ticks_at loose n kinds q more ++ events_at loose n kinds q more

-- A spot in front, with a tick there or with one of the kinds.
pub next_all : (P : Spots → Type 0) (loose n : ℕ) (kinds : List ℕ) (p places high : ℕ)
    → ((q more : ℕ) → p ≤ q → q < high → q + more ≡ high → All (λ ps. P (spot loose q 0 ∷ ps)) (of_spots loose n kinds q more))
    → ((q more i : ℕ) → p ≤ q → q < high → q + more ≡ high → i < length kinds → All (λ ps. P (spot loose q (get_or kinds i 0) ∷ ps)) (of_spots loose n (remove kinds i) q more))
    → p + places ≡ high → All P (of_spots loose (suc n) kinds p places)
next_all P loose n kinds p places high tick event e =
    from_each_all P (at_place loose n kinds) p high
    (λ q more l m s. All-append P (ticks_at loose n kinds q more) (events_at loose n kinds q more)
    (All-map P (λ ps. spot loose q 0 ∷ ps) (of_spots loose n kinds q more) (tick q more l m s))
    (each_kind_all P (at_kind loose n q more) kinds (length kinds)
    (λ i d. All-map P (λ ps. spot loose q (get_or kinds i 0) ∷ ps) (of_spots loose n (remove kinds i) q more) (event q more i l m s d))))
    p places (omega arith) e

-- ---- all schedules

-- A schedule has each kind of loose event as often as the list.
abbrev pub Counts : ℕ → List ℕ → Spots → Type 0
Counts loose kinds ps = (kind : ℕ) → 1 ≤ kind → kind ≤ loose → count_by (λ q. kind_of loose q == kind) ps ≡ count_by (λ k. k == kind) kinds

count_cons : (p : ℕ → Bool) (x : ℕ) (xs : List ℕ) (b : Bool) → p x ≡ b → count_by p (x ∷ xs) ≡ cond b 1 0 + count_by p xs
count_cons p x xs b e = sum_by-cons (λ y. cond (p y) 1 0) x xs ∙ ap (λ c. cond c 1 0 + count_by p xs) e

-- A tick is of none of these kinds.
tick_uncounted : (loose q kind : ℕ) (ps : Spots) → kind_of loose q ≡ 0 → 1 ≤ kind → count_by (λ s. kind_of loose s == kind) (q ∷ ps) ≡ count_by (λ s. kind_of loose s == kind) ps
tick_uncounted loose q kind ps z l =
    let other : kind_of loose q ≡ kind → ⊥ = λ e. omega (arith, z, e, l) in
    omega (arith, count_cons (λ s. kind_of loose s == kind) q ps false (ne_eqb (kind_of loose q) kind other))

-- A loose event is counted on both sides, until it is removed.
event_counted : (loose q kind i : ℕ) (kinds : List ℕ) (ps : Spots) → i < length kinds → kind_of loose q ≡ get_or kinds i 0
    → count_by (λ s. kind_of loose s == kind) (q ∷ ps) + count_by (λ k. k == kind) (remove kinds i) ≡ count_by (λ s. kind_of loose s == kind) ps + count_by (λ k. k == kind) kinds
event_counted loose q kind i kinds ps l e =
    let here = count_cons (λ s. kind_of loose s == kind) q ps (get_or kinds i 0 == kind) (ap (λ k. k == kind) e) in
    omega (arith, here, sum_by-remove (λ k. cond (k == kind) 1 0) kinds i 0 l)

-- A kind that is counted is in the list.
found : (kind : ℕ) (kinds : List ℕ) → 0 < count_by (λ k. k == kind) kinds → (i : ℕ) × (i < length kinds) × (get_or kinds i 0 ≡ kind)
found kind [] l = absurd (omega (arith, l))
found kind (k ∷ kinds) l =
    ⊎_elim
    (λ here. (0, omega arith, here.1))
    (λ other. let c = count_cons (λ j. j == kind) k kinds false other.0 in
    let later = found kind kinds (omega (arith, l, c)) in (suc later.0, omega (arith, later.1), later.2))
    (eqb_tells k kind)

-- If nothing is counted, no kind is left.
none_left : (loose : ℕ) (kinds : List ℕ) → AreKinds loose kinds → Counts loose kinds [] → kinds ≡ []
none_left loose [] a c = refl
none_left loose (k ∷ kinds) a c =
    let none = c k (a.least 0 0 (omega arith)) (a.most 0 0 (omega arith)) in
    absurd (omega (arith, none, count_cons (λ j. j == k) k kinds true (eq-eqb k k refl)))

-- A schedule of n spots, from low and below high, with one of each of these kinds.
pub record IsLevel (loose n : ℕ) (kinds : List ℕ) (low high : ℕ) (ps : Spots) : Type 0 where
  pub many : length ps ≡ n
  pub rise : RisesFrom loose low high ps
  pub counts : Counts loose kinds ps

tick_level : (loose n : ℕ) (kinds : List ℕ) (low p high : ℕ) (ps : Spots) → low ≤ p → p < high → IsLevel loose n kinds p high ps → IsLevel loose (suc n) kinds low high (spot loose p 0 ∷ ps)
tick_level loose n kinds low p high ps l m i = record {
  many = ap suc i.many;
  rise = rises_at loose low p high 0 ps (omega arith) l m i.rise;
  counts = λ kind a b. tick_uncounted loose (spot loose p 0) kind ps (kind_of_spot loose p 0 (omega arith)) a ∙ i.counts kind a b;
}

event_level : (loose n : ℕ) (kinds : List ℕ) (low p high i : ℕ) (ps : Spots) → AreKinds loose kinds → low ≤ p → p < high → i < length kinds
    → IsLevel loose n (remove kinds i) p high ps → IsLevel loose (suc n) kinds low high (spot loose p (get_or kinds i 0) ∷ ps)
event_level loose n kinds low p high i ps a l m d is =
    let within : get_or kinds i 0 ≤ loose = a.most i 0 d in record {
      many = ap suc is.many;
      rise = rises_at loose low p high (get_or kinds i 0) ps within l m is.rise;
      counts = λ k b c. omega (arith, event_counted loose (spot loose p (get_or kinds i 0)) k i kinds ps d (kind_of_spot loose p (get_or kinds i 0) within), is.counts k b c);
    }

pub level_is : (loose n : ℕ) (kinds : List ℕ) (p places high : ℕ) → AreKinds loose kinds → p + places ≡ high → All (IsLevel loose n kinds p high) (of_spots loose n kinds p places)
level_is loose zero [] p places high a e =
    All-cons (IsLevel loose zero [] p high) [] [] record { many = refl; rise = tt; counts = λ kind b c. refl } (All-nil (IsLevel loose zero [] p high))
level_is loose zero (k ∷ kinds) p places high a e = All-nil (IsLevel loose zero (k ∷ kinds) p high)
level_is loose (suc n) kinds p places high a e =
    next_all (IsLevel loose (suc n) kinds p high) loose n kinds p places high
    (λ q more l m s. All-weaker (IsLevel loose n kinds q high) (λ ps. IsLevel loose (suc n) kinds p high (spot loose q 0 ∷ ps)) (λ ps i. tick_level loose n kinds p q high ps l m i)
    (of_spots loose n kinds q more) (level_is loose n kinds q more high a s))
    (λ q more i l m s d. All-weaker (IsLevel loose n (remove kinds i) q high) (λ ps. IsLevel loose (suc n) kinds p high (spot loose q (get_or kinds i 0) ∷ ps))
    (λ ps is. event_level loose n kinds p q high i ps a l m d is)
    (of_spots loose n (remove kinds i) q more) (level_is loose n (remove kinds i) q more high (kinds_left loose kinds i d a) s))
    e

Contains-map : (f : Spots → Spots) (xs : List Spots) (x : Spots) → Contains xs x → Contains (map f xs) (f x)
Contains-map f xs x c = (c.0, rw length-map c.1, get_or-map f xs c.0 x (f x) c.1 ∙ ap f c.2)

with_spot_has : (q r : ℕ) (xs : List Spots) (ps : Spots) → r ≡ q → Contains xs ps → Contains (with_spot r xs) (q ∷ ps)
with_spot_has q r xs ps e c = subst (λ s. Contains (with_spot r xs) (s ∷ ps)) e (Contains-map (λ qs. r ∷ qs) xs ps c)

each_kind_has : (f : ℕ → List ℕ → List Spots) (kinds : List ℕ) (x : Spots) (i : ℕ) → Contains (f (get_or kinds i 0) (remove kinds i)) x → (n : ℕ) → i < n → Contains (each_kind f n kinds) x
each_kind_has f kinds x i c zero l = absurd (omega (arith, l))
each_kind_has f kinds x i c (suc n) l =
    ⊎_elim
    (λ earlier. Contains-append_left (each_kind f n kinds) (f (get_or kinds n 0) (remove kinds n)) x (each_kind_has f kinds x i c n earlier))
    (λ last. let same : i ≡ n = omega (arith, l, last) in
    Contains-append_right (each_kind f n kinds) (f (get_or kinds n 0) (remove kinds n)) x (subst (λ k. Contains (f (get_or kinds k 0) (remove kinds k)) x) same c))
    (cases_lt i n)

from_each_has : (f : ℕ → ℕ → List Spots) (x : Spots) (q high : ℕ) → q < high → ((more : ℕ) → q + more ≡ high → Contains (f q more) x)
    → (p places : ℕ) → p ≤ q → p + places ≡ high → Contains (from_each f p places) x
from_each_has f x q high b h p zero l e = absurd (omega (arith, b, l, e))
from_each_has f x q high b h p (suc more) l e =
    ⊎_elim
    (λ later. Contains-append_right (f p (suc more)) (from_each f (p + 1) more) x (from_each_has f x q high b h (p + 1) more (omega (arith, later)) (omega (arith, e))))
    (λ here. let same : q ≡ p = omega (arith, here, l) in
    Contains-append_left (f p (suc more)) (from_each f (p + 1) more) x (subst (λ r. Contains (f r (suc more)) x) same (h (suc more) (omega (arith, e, same)))))
    (cases_lt p q)

-- A spot before what may follow it at its place.
tick_has : (loose n : ℕ) (kinds : List ℕ) (low high more q : ℕ) (ps : Spots) → AreKinds loose kinds
    → ((left : List ℕ) → AreKinds loose left → IsLevel loose n left (place_of loose q) high ps → Contains (of_spots loose n left (place_of loose q) more) ps)
    → IsLevel loose (suc n) kinds low high (q ∷ ps) → kind_of loose q ≤ 0 → Contains (ticks_at loose n kinds (place_of loose q) more) (q ∷ ps)
tick_has loose n kinds low high more q ps a h i z =
    let none : kind_of loose q ≡ 0 = omega (arith, z) in
    with_spot_has q (spot loose (place_of loose q) 0) (of_spots loose n kinds (place_of loose q) more) ps (ap (spot loose (place_of loose q)) (sym none) ∙ spot_is loose q)
    (h kinds a record { many = omega (arith, i.many); rise = i.rise.2; counts = λ kind b c. sym (tick_uncounted loose q kind ps none b) ∙ i.counts kind b c })

event_has : (loose n : ℕ) (kinds : List ℕ) (low high more q : ℕ) (ps : Spots) → AreKinds loose kinds
    → ((left : List ℕ) → AreKinds loose left → IsLevel loose n left (place_of loose q) high ps → Contains (of_spots loose n left (place_of loose q) more) ps)
    → IsLevel loose (suc n) kinds low high (q ∷ ps) → 0 < kind_of loose q → Contains (events_at loose n kinds (place_of loose q) more) (q ∷ ps)
event_has loose n kinds low high more q ps a h i l =
    let counted = i.counts (kind_of loose q) (omega (arith, l)) (kind_within loose q) in
    let one = count_cons (λ s. kind_of loose s == kind_of loose q) q ps true (eq-eqb (kind_of loose q) (kind_of loose q) refl) in
    let at = found (kind_of loose q) kinds (omega (arith, counted, one)) in
    each_kind_has (at_kind loose n (place_of loose q) more) kinds (q ∷ ps) at.0
    (with_spot_has q (spot loose (place_of loose q) (get_or kinds at.0 0)) (of_spots loose n (remove kinds at.0) (place_of loose q) more) ps
    (ap (spot loose (place_of loose q)) at.2 ∙ spot_is loose q)
    (h (remove kinds at.0) (kinds_left loose kinds at.0 at.1 a)
    record { many = omega (arith, i.many); rise = i.rise.2; counts = λ kind b c. omega (arith, event_counted loose q kind at.0 kinds ps at.1 (sym at.2), i.counts kind b c) }))
    (length kinds) at.1

place_has : (loose n : ℕ) (kinds : List ℕ) (low high more q : ℕ) (ps : Spots) → AreKinds loose kinds
    → ((left : List ℕ) → AreKinds loose left → IsLevel loose n left (place_of loose q) high ps → Contains (of_spots loose n left (place_of loose q) more) ps)
    → IsLevel loose (suc n) kinds low high (q ∷ ps) → Contains (at_place loose n kinds (place_of loose q) more) (q ∷ ps)
place_has loose n kinds low high more q ps a h i =
    ⊎_elim
    (λ event. Contains-append_right (ticks_at loose n kinds (place_of loose q) more) (events_at loose n kinds (place_of loose q) more) (q ∷ ps)
    (event_has loose n kinds low high more q ps a h i event))
    (λ tick. Contains-append_left (ticks_at loose n kinds (place_of loose q) more) (events_at loose n kinds (place_of loose q) more) (q ∷ ps)
    (tick_has loose n kinds low high more q ps a h i tick))
    (cases_lt 0 (kind_of loose q))

pub level_has : (loose n : ℕ) (kinds : List ℕ) (p places high : ℕ) → AreKinds loose kinds → p + places ≡ high → (ps : Spots) → IsLevel loose n kinds p high ps → Contains (of_spots loose n kinds p places) ps
level_has loose zero kinds p places high a e [] i =
    subst (λ ks. Contains (of_spots loose zero ks p places) []) (sym (none_left loose kinds a i.counts)) (0, omega arith, refl)
level_has loose zero kinds p places high a e (q ∷ ps) i = absurd (omega (arith, i.many))
level_has loose (suc n) kinds p places high a e [] i = absurd (omega (arith, i.many))
level_has loose (suc n) kinds p places high a e (q ∷ ps) i =
    from_each_has (at_place loose n kinds) (q ∷ ps) (place_of loose q) high i.rise.1
    (λ more s. place_has loose n kinds p high more q ps a (λ left b is. level_has loose n left (place_of loose q) more high b s ps is) i)
    p places i.rise.0 e

-- There is no schedule with fewer spots than kinds.
each_kind_none : (f : ℕ → List ℕ → List Spots) (kinds : List ℕ) (n : ℕ) → ((i : ℕ) → i < n → f (get_or kinds i 0) (remove kinds i) ≡ []) → each_kind f n kinds ≡ []
each_kind_none f kinds zero h = refl
each_kind_none f kinds (suc n) h = rw (each_kind_none f kinds n (λ i l. h i (omega arith)), h n (omega arith)) refl

from_each_none : (f : ℕ → ℕ → List Spots) → ((q more : ℕ) → f q more ≡ []) → (p places : ℕ) → from_each f p places ≡ []
from_each_none f h p zero = refl
from_each_none f h p (suc more) = rw (h p (suc more), from_each_none f h (p + 1) more) refl

pub too_few : (loose n : ℕ) (kinds : List ℕ) (p places : ℕ) → n < length kinds → of_spots loose n kinds p places ≡ []
too_few loose zero [] p places l = absurd (omega (arith, l))
too_few loose zero (k ∷ kinds) p places l = refl
too_few loose (suc n) kinds p places l =
    from_each_none (at_place loose n kinds)
    (λ q more. rw (
      too_few loose n kinds q more (omega (arith, l)),
      each_kind_none (at_kind loose n q more) kinds (length kinds) (λ i d. ap (with_spot (spot loose q (get_or kinds i 0))) (too_few loose n (remove kinds i) q more (omega (arith, l, length-remove kinds i d)))),
    ) refl)
    p places

-- ---- the schedules of a family

-- Of at most n spots.
pub record IsAtMost (loose n : ℕ) (kinds : List ℕ) (low high : ℕ) (ps : Spots) : Type 0 where
  pub few : length ps ≤ n
  pub rise : RisesFrom loose low high ps
  pub counts : Counts loose kinds ps

at_most : (loose n k : ℕ) (kinds : List ℕ) (low high : ℕ) (ps : Spots) → k ≤ n → IsLevel loose k kinds low high ps → IsAtMost loose n kinds low high ps
at_most loose n k kinds low high ps l i = record { few = omega (arith, i.many); rise = i.rise; counts = i.counts }

pub at_most_is : (loose n : ℕ) (kinds : List ℕ) (p places high : ℕ) → AreKinds loose kinds → p + places ≡ high → All (IsAtMost loose n kinds p high) (of_at_most loose n kinds p places)
unfolding of_at_most
at_most_is loose zero kinds p places high a e =
    All-weaker (IsLevel loose zero kinds p high) (IsAtMost loose zero kinds p high) (λ ps i. at_most loose zero zero kinds p high ps (omega arith) i)
    (of_spots loose zero kinds p places) (level_is loose zero kinds p places high a e)
at_most_is loose (suc n) kinds p places high a e =
    All-append (IsAtMost loose (suc n) kinds p high) (of_at_most loose n kinds p places) (of_spots loose (suc n) kinds p places)
    (All-weaker (IsAtMost loose n kinds p high) (IsAtMost loose (suc n) kinds p high) (λ ps i. record { few = omega (arith, i.few); rise = i.rise; counts = i.counts })
    (of_at_most loose n kinds p places) (at_most_is loose n kinds p places high a e))
    (All-weaker (IsLevel loose (suc n) kinds p high) (IsAtMost loose (suc n) kinds p high) (λ ps i. at_most loose (suc n) (suc n) kinds p high ps (omega arith) i)
    (of_spots loose (suc n) kinds p places) (level_is loose (suc n) kinds p places high a e))

at_most_has : (loose n : ℕ) (kinds : List ℕ) (p places high : ℕ) → AreKinds loose kinds → p + places ≡ high → (ps : Spots) → IsAtMost loose n kinds p high ps → Contains (of_at_most loose n kinds p places) ps
unfolding of_at_most
at_most_has loose zero kinds p places high a e ps i = level_has loose zero kinds p places high a e ps record { many = omega (arith, i.few); rise = i.rise; counts = i.counts }
at_most_has loose (suc n) kinds p places high a e ps i =
    ⊎_elim
    (λ fewer. Contains-append_left (of_at_most loose n kinds p places) (of_spots loose (suc n) kinds p places) ps
    (at_most_has loose n kinds p places high a e ps record { few = omega (arith, fewer); rise = i.rise; counts = i.counts }))
    (λ most. Contains-append_right (of_at_most loose n kinds p places) (of_spots loose (suc n) kinds p places) ps
    (level_has loose (suc n) kinds p places high a e ps record { many = omega (arith, most, i.few); rise = i.rise; counts = i.counts }))
    (cases_lt (length ps) (suc n))

abbrev one_if : Bool → ℕ
one_if b = cond b 1 0

-- Each kind is counted once.
none_above : (loose kind : ℕ) → loose < kind → count_by (λ k. k == kind) (kinds_of loose) ≡ 0
none_above zero kind l = refl
none_above (suc loose) kind l =
    let other = ap one_if (ne_eqb (suc loose) kind (λ e. omega (arith, l, e))) in
    omega (arith, none_above loose kind (omega (arith, l)), sum_by_push (λ k. cond (k == kind) 1 0) (kinds_of loose) (suc loose), other)

each_one : (loose kind : ℕ) → 1 ≤ kind → kind ≤ loose → count_by (λ k. k == kind) (kinds_of loose) ≡ 1
each_one zero kind a b = absurd (omega (arith, a, b))
each_one (suc loose) kind a b =
    let last = sum_by_push (λ k. cond (k == kind) 1 0) (kinds_of loose) (suc loose) in
    ⊎_elim
    (λ below. let other = ap one_if (ne_eqb (suc loose) kind (λ e. omega (arith, below, e))) in
    omega (arith, each_one loose kind a (omega (arith, below)), last, other))
    (λ above. let here = ap one_if (eq-eqb (suc loose) kind (omega (arith, b, above))) in
    omega (arith, none_above loose kind (omega (arith, above)), last, here))
    (cases_lt kind (suc loose))

pub schedule_of : (upto ticks loose : ℕ) (ps : Spots) → Contains (family upto ticks loose) ps → IsSchedule upto ticks loose ps
schedule_of upto ticks loose ps c =
    let i = All-contains (IsAtMost loose (ticks + loose) (kinds_of loose) 0 upto) (family upto ticks loose) ps
    (at_most_is loose (ticks + loose) (kinds_of loose) 0 upto upto (all_kinds loose) (omega arith)) c in
    record { rising = rises_up loose 0 upto ps i.rise; below = below_high loose 0 upto ps i.rise; few = i.few; each = λ kind a b. i.counts kind a b ∙ each_one loose kind a b }

pub members : (upto ticks loose : ℕ) (ps : Spots) → Contains (family upto ticks loose) ps ↔ IsSchedule upto ticks loose ps
members upto ticks loose ps = (
  schedule_of upto ticks loose ps,
  λ i. at_most_has loose (ticks + loose) (kinds_of loose) 0 upto upto (all_kinds loose) (omega arith) ps record {
    few = i.few;
    rise = rises loose 0 upto ps i.rising i.below (λ k d l. omega arith);
    counts = λ kind a b. i.each kind a b ∙ sym (each_one loose kind a b);
  },
)

-- ---- the order

all_pairs_append : (R : Spots → Spots → Type 0) (xs ys : List Spots) → AllPairs R xs → AllPairs R ys → All (λ x. All (R x) ys) xs → AllPairs R (xs ++ ys)
all_pairs_append R [] ys h g cross = g
all_pairs_append R (x ∷ xs) ys h g cross =
    AllPairs-cons R x (xs ++ ys)
    (All-append (R x) xs ys (λ k d l. h 0 (suc k) d (omega arith) (omega (arith, l))) (All-head (λ z. All (R z) ys) x xs cross))
    (all_pairs_append R xs ys (λ i j d l m. h (suc i) (suc j) d (omega (arith, l)) (omega (arith, m))) g (All-tail (λ z. All (R z) ys) x xs cross))

before_with : (p : ℕ) (xs ys : Spots) → IsBefore xs ys → IsBefore (p ∷ xs) (p ∷ ys)
before_with p xs ys (inl fewer) = inl (omega (arith, fewer))
before_with p xs ys (inr earlier) = inr (ap suc earlier.0, inr (refl, earlier.1))

all_pairs_with : (p : ℕ) (xs : List Spots) → AllPairs IsBefore xs → AllPairs IsBefore (map (λ ps. p ∷ ps) xs)
all_pairs_with p xs h i j d l m =
    let within : j < length xs = omega (arith, length-map xs (λ ps. p ∷ ps)) in
    let low : get_or (map (λ ps. p ∷ ps) xs) i d ≡ p ∷ get_or xs i d = get_or-map (λ ps. p ∷ ps) xs i d d (omega arith) in
    let high : get_or (map (λ ps. p ∷ ps) xs) j d ≡ p ∷ get_or xs j d = get_or-map (λ ps. p ∷ ps) xs j d d within in
    rw (low, high) (before_with p (get_or xs i d) (get_or xs j d) (h i j d l within))

-- A spot from low and below high, and n after it.
abbrev StartsWithin : ℕ → ℕ → ℕ → Spots → Type 0
StartsWithin n low high [] = ⊥
StartsWithin n low high (q ∷ ps) = (length ps ≡ n) × (low ≤ q) × (q < high)

starts_wider : (n low high lower higher : ℕ) (ps : Spots) → lower ≤ low → high ≤ higher → StartsWithin n low high ps → StartsWithin n lower higher ps
starts_wider n low high lower higher [] l m s = s
starts_wider n low high lower higher (q ∷ ps) l m s = (s.0, omega (arith, l, s.1), omega (arith, m, s.2))

starts_before : (n low mid high : ℕ) (xs ys : Spots) → StartsWithin n low mid xs → StartsWithin n mid high ys → IsBefore xs ys
starts_before n low mid high [] ys s t = absurd s
starts_before n low mid high (p ∷ xs) [] s t = absurd t
starts_before n low mid high (p ∷ xs) (q ∷ ys) s t = inr (omega (arith, s.0, t.0), inl (omega (arith, s.2, t.1)))

ordered_between : (n low mid high : ℕ) (xs ys : List Spots) → All (StartsWithin n low mid) xs → All (StartsWithin n mid high) ys → AllPairs IsBefore xs → AllPairs IsBefore ys
    → AllPairs IsBefore (xs ++ ys)
ordered_between n low mid high xs ys s t h g =
    all_pairs_append IsBefore xs ys h g
    (All-weaker (StartsWithin n low mid) (λ x. All (IsBefore x) ys)
    (λ x a. All-weaker (StartsWithin n mid high) (IsBefore x) (λ y b. starts_before n low mid high x y a b) ys t) xs s)

spot_starts : (n q low high : ℕ) (xs : List Spots) → low ≤ q → q < high → All (λ ps. length ps ≡ n) xs → All (StartsWithin n low high) (with_spot q xs)
spot_starts n q low high xs l m h =
    All-map (StartsWithin n low high) (λ ps. q ∷ ps) xs (All-weaker (λ ps. length ps ≡ n) (λ ps. StartsWithin n low high (q ∷ ps)) (λ ps e. (e, l, m)) xs h)

pub level_length : (loose n : ℕ) (kinds : List ℕ) (p places : ℕ) → AreKinds loose kinds → All (λ ps. length ps ≡ n) (of_spots loose n kinds p places)
level_length loose n kinds p places a =
    All-weaker (IsLevel loose n kinds p (p + places)) (λ ps. length ps ≡ n) (λ ps i. i.many) (of_spots loose n kinds p places) (level_is loose n kinds p places (p + places) a refl)

ticks_start : (loose n : ℕ) (kinds : List ℕ) (q more : ℕ) → AreKinds loose kinds
    → All (StartsWithin n (spot loose q 0) (spot loose q 1)) (ticks_at loose n kinds q more)
ticks_start loose n kinds q more a =
    spot_starts n (spot loose q 0) (spot loose q 0) (spot loose q 1) (of_spots loose n kinds q more) (omega arith) (omega arith) (level_length loose n kinds q more a)

events_start : (loose n : ℕ) (kinds : List ℕ) (q more : ℕ) → AreKinds loose kinds
    → All (StartsWithin n (spot loose q 1) (spot loose (q + 1) 0)) (events_at loose n kinds q more)
events_start loose n kinds q more a =
    each_kind_all (StartsWithin n (spot loose q 1) (spot loose (q + 1) 0)) (at_kind loose n q more) kinds (length kinds)
    (λ i d. spot_starts n (spot loose q (get_or kinds i 0)) (spot loose q 1) (spot loose (q + 1) 0) (of_spots loose n (remove kinds i) q more)
    (omega (arith, a.least i 0 d)) (omega (arith, a.most i 0 d, spot_next loose q)) (level_length loose n (remove kinds i) q more (kinds_left loose kinds i d a)))

place_starts : (loose n : ℕ) (kinds : List ℕ) (q more : ℕ) → AreKinds loose kinds → All (StartsWithin n (spot loose q 0) (spot loose (q + 1) 0)) (at_place loose n kinds q more)
place_starts loose n kinds q more a =
    All-append (StartsWithin n (spot loose q 0) (spot loose (q + 1) 0)) (ticks_at loose n kinds q more) (events_at loose n kinds q more)
    (spot_starts n (spot loose q 0) (spot loose q 0) (spot loose (q + 1) 0) (of_spots loose n kinds q more) (omega arith) (omega (arith, spot_next loose q)) (level_length loose n kinds q more a))
    (All-weaker (StartsWithin n (spot loose q 1) (spot loose (q + 1) 0)) (StartsWithin n (spot loose q 0) (spot loose (q + 1) 0))
    (λ ps s. starts_wider n (spot loose q 1) (spot loose (q + 1) 0) (spot loose q 0) (spot loose (q + 1) 0) ps (omega arith) (omega arith) s)
    (events_at loose n kinds q more) (events_start loose n kinds q more a))

events_in_order : (loose n : ℕ) (kinds : List ℕ) (q more : ℕ) → AreKinds loose kinds → ((left : List ℕ) → AreKinds loose left → AllPairs IsBefore (of_spots loose n left q more))
    → (m : ℕ) → m ≤ length kinds → AllPairs IsBefore (each_kind (at_kind loose n q more) m kinds)
events_in_order loose n kinds q more a h zero l = λ i j d b c. absurd (omega (arith, c))
events_in_order loose n kinds q more a h (suc m) l =
    let here : m < length kinds = omega (arith, l) in
    let last = get_or kinds m 0 in
    ordered_between n (spot loose q 0) (spot loose q last) (suc (spot loose q last)) (each_kind (at_kind loose n q more) m kinds) (at_kind loose n q more last (remove kinds m))
    (each_kind_all (StartsWithin n (spot loose q 0) (spot loose q last)) (at_kind loose n q more) kinds m
    (λ i d. let lower : i < length kinds = omega (arith, l, d) in
    spot_starts n (spot loose q (get_or kinds i 0)) (spot loose q 0) (spot loose q last) (of_spots loose n (remove kinds i) q more)
    (omega arith) (omega (arith, a.rise i m 0 d here)) (level_length loose n (remove kinds i) q more (kinds_left loose kinds i lower a))))
    (spot_starts n (spot loose q last) (spot loose q last) (suc (spot loose q last)) (of_spots loose n (remove kinds m) q more) (omega arith) (omega arith)
    (level_length loose n (remove kinds m) q more (kinds_left loose kinds m here a)))
    (events_in_order loose n kinds q more a h m (omega (arith, l)))
    (all_pairs_with (spot loose q last) (of_spots loose n (remove kinds m) q more) (h (remove kinds m) (kinds_left loose kinds m here a)))

place_in_order : (loose n : ℕ) (kinds : List ℕ) (q more : ℕ) → AreKinds loose kinds → ((left : List ℕ) → AreKinds loose left → AllPairs IsBefore (of_spots loose n left q more))
    → AllPairs IsBefore (at_place loose n kinds q more)
place_in_order loose n kinds q more a h =
    ordered_between n (spot loose q 0) (spot loose q 1) (spot loose (q + 1) 0) (ticks_at loose n kinds q more) (events_at loose n kinds q more)
    (ticks_start loose n kinds q more a) (events_start loose n kinds q more a)
    (all_pairs_with (spot loose q 0) (of_spots loose n kinds q more) (h kinds a))
    (events_in_order loose n kinds q more a h (length kinds) (omega arith))

each_in_order : (loose n : ℕ) (f : ℕ → ℕ → List Spots) → ((q more : ℕ) → All (StartsWithin n (spot loose q 0) (spot loose (q + 1) 0)) (f q more)) → ((q more : ℕ) → AllPairs IsBefore (f q more))
    → (p places : ℕ) → AllPairs IsBefore (from_each f p places)
each_in_order loose n f s h p zero = λ i j d l m. absurd (omega (arith, m))
each_in_order loose n f s h p (suc more) =
    ordered_between n (spot loose p 0) (spot loose (p + 1) 0) (spot loose (p + 1 + more) 0) (f p (suc more)) (from_each f (p + 1) more)
    (s p (suc more))
    (from_each_all (StartsWithin n (spot loose (p + 1) 0) (spot loose (p + 1 + more) 0)) f (p + 1) (p + 1 + more)
    (λ q rest l m e. All-weaker (StartsWithin n (spot loose q 0) (spot loose (q + 1) 0)) (StartsWithin n (spot loose (p + 1) 0) (spot loose (p + 1 + more) 0))
    (λ ps w. starts_wider n (spot loose q 0) (spot loose (q + 1) 0) (spot loose (p + 1) 0) (spot loose (p + 1 + more) 0) ps (spot_up loose (p + 1) q l) (spot_up loose (q + 1) (p + 1 + more) (omega (arith, m))) w)
    (f q rest) (s q rest))
    (p + 1) more (omega arith) refl)
    (h p (suc more)) (each_in_order loose n f s h (p + 1) more)

pub level_in_order : (loose n : ℕ) (kinds : List ℕ) (p places : ℕ) → AreKinds loose kinds → AllPairs IsBefore (of_spots loose n kinds p places)
level_in_order loose zero [] p places a = λ i j d l m. absurd (omega (arith, l, m))
level_in_order loose zero (k ∷ kinds) p places a = λ i j d l m. absurd (omega (arith, m))
level_in_order loose (suc n) kinds p places a =
    each_in_order loose n (at_place loose n kinds) (λ q more. place_starts loose n kinds q more a)
    (λ q more. place_in_order loose n kinds q more a (λ left b. level_in_order loose n left q more b)) p places

at_most_in_order : (loose n : ℕ) (kinds : List ℕ) (p places : ℕ) → AreKinds loose kinds → AllPairs IsBefore (of_at_most loose n kinds p places)
unfolding of_at_most
at_most_in_order loose zero kinds p places a = level_in_order loose zero kinds p places a
at_most_in_order loose (suc n) kinds p places a =
    all_pairs_append IsBefore (of_at_most loose n kinds p places) (of_spots loose (suc n) kinds p places) (at_most_in_order loose n kinds p places a) (level_in_order loose (suc n) kinds p places a)
    (All-weaker (IsAtMost loose n kinds p (p + places)) (λ xs. All (IsBefore xs) (of_spots loose (suc n) kinds p places))
    (λ xs i. All-weaker (λ ps. length ps ≡ suc n) (IsBefore xs) (λ ys o. inl (omega (arith, i.few, o))) (of_spots loose (suc n) kinds p places) (level_length loose (suc n) kinds p places a))
    (of_at_most loose n kinds p places) (at_most_is loose n kinds p places (p + places) a refl))

pub in_order : (upto ticks loose : ℕ) → AllPairs IsBefore (family upto ticks loose)
in_order upto ticks loose = at_most_in_order loose (ticks + loose) (kinds_of loose) 0 upto (all_kinds loose)

never_earlier : (ps : Spots) → IsEarlier ps ps → ⊥
never_earlier [] e = e
never_earlier (p ∷ ps) (inl less) = omega (arith, less)
never_earlier (p ∷ ps) (inr same) = never_earlier ps same.1

never_before : (ps : Spots) → IsBefore ps ps → ⊥
never_before ps (inl less) = omega (arith, less)
never_before ps (inr same) = never_earlier ps same.1

pub once : (upto ticks loose : ℕ) → AllPairs (λ ps qs. ps ≢ qs) (family upto ticks loose)
once upto ticks loose i j d l m same =
    never_before (get_or (family upto ticks loose) j d) (subst (λ ps. IsBefore ps (get_or (family upto ticks loose) j d)) same (in_order upto ticks loose i j d l m))
