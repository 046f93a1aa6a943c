-- Families of schedules: what is inserted into a list of events, and where, and which schedules there are.
use Rattle.std.specs.Prelude.{ℕ, zero, suc, ◌+◌, ◌*◌, ◌/◌, ◌%◌, ◌==◌, ◌<◌, ◌≤◌, ◌≡◌, ◌⊎◌, List, [], ◌∷◌, ◌++◌, length, map, All, count_by, remove, slice_index_or}
use Rattle.std.specs.List.Sorted.{IsNonDecreasing}

-- ---- spots

-- Ticks can be inserted, and each loose event is inserted once, anywhere. A tick is of kind 0, the first loose event of
-- kind 1, and so on. Before each event of the list there is a spot for each kind, and the spots are numbered in this
-- order. Without loose events, a spot is the place of the event, counted from 0.
abbrev pub spot : ℕ → ℕ → ℕ → ℕ
spot loose place kind = place * suc loose + kind

-- The place of the event that a spot is before.
abbrev pub place_of : ℕ → ℕ → ℕ
place_of loose q = q / suc loose

abbrev pub kind_of : ℕ → ℕ → ℕ
kind_of loose q = q % suc loose

-- A schedule is the list of its spots, in the order of the insertions. Several can be before the same event.
abbrev pub Spots : Type 0
Spots = List ℕ

-- ---- all schedules of a family

-- Each with this spot in front.
abbrev pub with_spot : ℕ → List Spots → List Spots
with_spot q schedules = map (λ ps. q ∷ ps) schedules

-- The results of f for each of the first kinds, and the kinds that are left without it.
abbrev pub each_kind : (ℕ → List ℕ → List Spots) → ℕ → List ℕ → List Spots
each_kind f zero kinds = []
each_kind f (suc i) kinds = each_kind f i kinds ++ f (slice_index_or kinds i 0) (remove kinds i)

-- The results of f from place p on, then from the next place on, and so on, while there are places.
abbrev pub from_each : (ℕ → ℕ → List Spots) → ℕ → ℕ → List Spots
from_each f p zero = []
from_each f p (suc more) = f p (suc more) ++ from_each f (p + 1) more

-- The schedules of n spots at `places` places from p on, with one spot of each of these kinds, and ticks otherwise; the
-- earliest spots first.
abbrev pub of_spots : ℕ → ℕ → List ℕ → ℕ → ℕ → List Spots
of_spots loose zero [] p places = [] ∷ []
of_spots loose zero (kind ∷ kinds) p places = []
of_spots loose (suc n) kinds p places =
    from_each (λ q more. with_spot (spot loose q 0) (of_spots loose n kinds q more)
    ++ each_kind (λ kind left. with_spot (spot loose q kind) (of_spots loose n left q more)) (length kinds) kinds) p places

-- The schedules of at most n spots, the fewest spots first.
unfoldable pub of_at_most : ℕ → ℕ → List ℕ → ℕ → ℕ → List Spots
of_at_most loose zero kinds p places = of_spots loose zero kinds p places
of_at_most loose (suc n) kinds p places = of_at_most loose n kinds p places ++ of_spots loose (suc n) kinds p places

-- The kinds of this many loose events.
abbrev pub kinds_of : ℕ → List ℕ
kinds_of zero = []
kinds_of (suc loose) = kinds_of loose ++ suc loose ∷ []

-- The schedules of at most `ticks` ticks, and of `loose` loose events, all before the first `upto` events: the fewest
-- ticks first, then the earliest spots.
abbrev pub family : ℕ → ℕ → ℕ → List Spots
family upto ticks loose = of_at_most loose (ticks + loose) (kinds_of loose) 0 upto

-- ---- properties of one schedule, and of two

-- A schedule of the family: the places of its spots don't decrease, all are below `upto`, each loose event is inserted
-- once, and there are at most `ticks` ticks.
pub record IsSchedule (upto ticks loose : ℕ) (ps : Spots) : Type 0 where
  pub rising : IsNonDecreasing (map (place_of loose) ps)
  pub below : All (λ q. place_of loose q < upto) ps
  pub few : length ps ≤ ticks + loose
  pub each : (kind : ℕ) → 1 ≤ kind → kind ≤ loose → count_by (λ q. kind_of loose q == kind) ps ≡ 1

-- The places of the spots begin at low or above, don't decrease, and are below high.
abbrev pub RisesFrom : ℕ → ℕ → ℕ → Spots → Type 0
RisesFrom loose low high [] = Unit {0}
RisesFrom loose low high (q ∷ ps) = (low ≤ place_of loose q) × (place_of loose q < high) × RisesFrom loose (place_of loose q) high ps

-- Where two schedules of equally many spots first differ, the first one has the earlier spot.
abbrev pub IsEarlier : Spots → Spots → Type 0
IsEarlier (p ∷ ps) (q ∷ qs) = (p < q) ⊎ ((p ≡ q) × IsEarlier ps qs)
IsEarlier [] qs = ⊥
IsEarlier (p ∷ ps) [] = ⊥

-- A schedule with fewer spots comes before one with more; of equally many spots, the earlier one does.
abbrev pub IsBefore : Spots → Spots → Type 0
IsBefore ps qs = (length ps < length qs) ⊎ ((length ps ≡ length qs) × IsEarlier ps qs)

-- ---- how many there are

-- The number of ways to choose k of n things, by Pascal's rule.
unfoldable pub choose : ℕ → ℕ → ℕ
choose n zero = 1
choose zero (suc k) = 0
choose (suc n) (suc k) = choose n k + choose n (suc k)

-- The number of ways to insert `loose` loose events before n events, one after another: n for the first, n + 1 for the
-- second, and so on.
abbrev pub ways : ℕ → ℕ → ℕ
ways n zero = 1
ways n (suc loose) = ways n loose * (n + loose)
