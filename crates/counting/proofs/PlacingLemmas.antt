-- Places in a list of events, run by run: the events of a schedule, the event with a place, and the events from one
-- place up to another.
use Rattle.std.proofs.Common.{min, max, ap₂, zero, suc, Some, ◌≡◌, ℕ, ◌+◌, ◌-◌, ◌<◌, ◌≤◌, List, [], ◌∷◌, ◌++◌, length, map, replicate, take, drop, get_or, slice_get, refl, ap, sym, subst, ◌∙◌, arith, add-one, append_assoc, append-nil, drop-cons, length-append}
use Rattle.std.specs.List.{All}
use Rattle.std.specs.List.Sorted.{IsNonDecreasing}
use Rattle.std.proofs.lemmas.List.{drop-replicate, length-drop, length-replicate, length-take, take-replicate, take_all, take_min}
use Rattle.posix.specs.declared.event.Event.{Event}
use Rattle.schedules.specs.Families.{RisesFrom, Spots, place_of, IsSchedule}
use Rattle.schedules.specs.Schedules.{from_front, put_at}
use Rattle.schedules.proofs.ScheduledLemmas.{put_among, run_next}
use Rattle.text.specs.EventLists.{CountedEvent, expanded}
use Rattle.kernel.proofs.EventLemmas.{expanded_more, expanded_split}

-- A spot within a run: the events before its place are in the list, and so is the inserted event.
pub spot_put : (loose : List Event) (done end place : ℕ) (x y : Event) (old mid new whole behind : List Event) (q : ℕ) (ps qs : Spots) → qs ≡ q ∷ ps
    → place ≡ place_of (length loose) q → done ≤ place → place ≤ end → y ≡ put_at loose q → mid ≡ old ++ replicate (place - done) x → new ≡ mid ++ replicate 1 y
    → old ++ from_front loose done (replicate (end - done) x ++ behind) qs ≡ whole → new ++ from_front loose place (replicate (end - place) x ++ behind) ps ≡ whole
spot_put loose done end place x y old mid new whole behind q ps qs is at from within what came last before =
    let m : ℕ = place_of (length loose) q - done in
    let less : end - place ≡ end - done - m = omega (arith, at, from, within) in
    let rest : List Event = from_front loose (place_of (length loose) q) (replicate (end - done - m) x ++ behind) ps in
    rw (last, came, what, less, at)
    (append_assoc (old ++ replicate m x) (put_at loose q ∷ []) rest
    ∙ append_assoc old (replicate m x) (put_at loose q ∷ rest)
    ∙ ap (λ es. old ++ es) (sym (put_among loose done (end - done) x behind q ps (omega (arith, at, within))))
    ∙ ap (λ rs. old ++ from_front loose done (replicate (end - done) x ++ behind) rs) (sym is)
    ∙ before)

pub put_length : (n : ℕ) (event x : Event) (old mid new : List Event) → mid ≡ old ++ replicate n event → new ≡ mid ++ replicate 1 x → length new ≡ length old + n + 1
put_length n event x old mid new came last =
    ap length last ∙ length-append mid (replicate 1 x) ∙ omega (arith, length-replicate 1 x, ap length came, length-append old (replicate n event), length-replicate n event)

-- The rest of a run, if no other spot is within it.
pub rest_put : (loose : List Event) (done end high : ℕ) (x : Event) (old new whole behind : List Event) (ps : Spots) → done ≤ end → RisesFrom (length loose) end high ps
    → new ≡ old ++ replicate (end - done) x → old ++ from_front loose done (replicate (end - done) x ++ behind) ps ≡ whole → new ++ from_front loose end behind ps ≡ whole
rest_put loose done end high x old new whole behind ps within rises came before =
    let all : done + (end - done) ≡ end = omega arith in
    ap (λ es. es ++ from_front loose end behind ps) came
    ∙ append_assoc old (replicate (end - done) x) (from_front loose end behind ps)
    ∙ ap (λ es. old ++ es)
    (ap (λ i. replicate (end - done) x ++ from_front loose i behind ps) (sym all)
    ∙ sym (run_next loose done (end - done) high x behind ps (subst (λ low. RisesFrom (length loose) low high ps) (sym all) rises)))
    ∙ before

-- After the last run nothing is left.
pub all_put : (loose : List Event) (start high : ℕ) (list whole left : List Event) (ps : Spots) → high ≤ start → RisesFrom (length loose) start high ps → left ≡ []
    → list ++ from_front loose start left ps ≡ whole → list ≡ whole
unfolding from_front
all_put loose start high list whole left [] end rises none is = sym (append-nil list) ∙ ap (λ es. list ++ es) (sym none) ∙ is
all_put loose start high list whole left (q ∷ ps) end rises none is = absurd (omega (arith, rises.0, rises.1, end))

-- ---- runs among the events

-- The run at i is the first of those that are left.
pub runs_left : (rs : List CountedEvent) (i : ℕ) (r : CountedEvent) → i < length rs → r ≡ get_or rs i r → expanded (drop i rs) ≡ replicate r.count r.event ++ expanded (drop (i + 1) rs)
runs_left rs i r lt is = rw (add-one i) (ap expanded (drop-cons rs i r lt ∙ ap (λ q. q ∷ drop (suc i) rs) (sym is)))

-- All runs are all events.
pub all_runs : (rs : List CountedEvent) (i now : ℕ) (all : List Event) → length rs ≤ i → expanded rs ≡ all → now ≡ length (expanded (take i rs)) → now ≡ length all
all_runs rs i now all end same at = at ∙ ap (λ (qs : List CountedEvent). length (expanded qs)) (take_all i rs end) ∙ ap length same

-- ---- the event with a place

replicate_got : (n p : ℕ) (x : Event) → p < n → slice_get (replicate n x) p ≡ Some x
replicate_got zero p x l = absurd (omega arith)
replicate_got (suc n) zero x l = refl
replicate_got (suc n) (suc p) x l = replicate_got n p x (omega arith)

got_in_front : (xs ys : List Event) (p : ℕ) (x : Event) → slice_get xs p ≡ Some x → slice_get (xs ++ ys) p ≡ Some x
got_in_front [] ys p x e = cc
got_in_front (y ∷ xs) ys zero x e = e
got_in_front (y ∷ xs) ys (suc p) x e = got_in_front xs ys p x e

got_behind : (xs ys : List Event) (q p : ℕ) → p ≡ length xs + q → slice_get (xs ++ ys) p ≡ slice_get ys q
got_behind [] ys q p e = let same : p ≡ q = omega (arith, e) in ap (slice_get ys) same
got_behind (x ∷ xs) ys q zero e = absurd (omega arith)
got_behind (x ∷ xs) ys q (suc p) e = got_behind xs ys q p (omega arith)

-- It is the event of the run that it is in.
pub event_in_run : (rs : List CountedEvent) (i now place : ℕ) (r : CountedEvent) (all : List Event) → i < length rs → r ≡ get_or rs i r → expanded rs ≡ all → now ≡ length (expanded (take i rs)) → now ≤ place
    → place - now < r.count → Some r.event ≡ slice_get all place
event_in_run rs i now place r all lt is same at from within =
    let before = expanded (take i rs) in
    let run = replicate r.count r.event in
    sym
    (ap (λ (xs : List Event). slice_get xs place) (sym (expanded_split rs i r lt is ∙ same))
    ∙ got_in_front (before ++ run) (expanded (drop (i + 1) rs)) place r.event
    (got_behind before run (place - now) place (omega (arith, at, from)) ∙ replicate_got r.count (place - now) r.event within))

-- ---- the events from one place up to another

take_appended : (n : ℕ) (xs ys : List Event) → take n (xs ++ ys) ≡ take n xs ++ take (n - length xs) ys
take_appended zero xs ys = ap (λ m. take m ys) {x = 0} {y = 0 - length xs} (omega arith)
take_appended (suc n) [] ys = ap (λ m. take m ys) {x = suc n} {y = suc n - 0} (omega arith)
take_appended (suc n) (x ∷ xs) ys = ap (λ zs. x ∷ zs) (take_appended n xs ys ∙ ap (λ m. take n xs ++ take m ys) {x = n - length xs} {y = suc n - length (x ∷ xs)} (omega arith))

drop_appended : (n : ℕ) (xs ys : List Event) → drop n (xs ++ ys) ≡ drop n xs ++ drop (n - length xs) ys
drop_appended zero xs ys = ap (λ m. xs ++ drop m ys) {x = 0} {y = 0 - length xs} (omega arith)
drop_appended (suc n) [] ys = ap (λ m. drop m ys) {x = suc n} {y = suc n - 0} (omega arith)
drop_appended (suc n) (x ∷ xs) ys = drop_appended n xs ys ∙ ap (λ m. drop n xs ++ drop m ys) {x = n - length xs} {y = suc n - length (x ∷ xs)} (omega arith)

take_replicated : (m n : ℕ) (x : Event) → take m (replicate n x) ≡ replicate (min m n) x
take_replicated m n x = sym (take_min m (replicate n x)) ∙ ap (λ k. take (min m k) (replicate n x)) (length-replicate n x) ∙ take-replicate (min m n) n x (omega arith)

-- With the events of one more run.
pub part_more : (rs : List CountedEvent) (i now from to n : ℕ) (r : CountedEvent) (event : Event) (old new : List Event) → i < length rs → r ≡ get_or rs i r → now ≡ length (expanded (take i rs)) → event ≡ r.event
    → n ≡ min to (now + r.count) - max from now → old ≡ take (to - from) (drop from (expanded (take i rs))) → new ≡ old ++ replicate n event → new ≡ take (to - from) (drop from (expanded (take (i + 1) rs)))
part_more rs i now from to n r event old new lt is at its some was more =
    let before = expanded (take i rs) in
    let left = r.count - (from - length before) in
    more
    ∙ ap₂ (λ xs (x : Event). xs ++ replicate n x) was its
    ∙ ap (λ k. take (to - from) (drop from before) ++ replicate k r.event) {x = n} {y = min (to - from - length (drop from before)) left} (omega (arith, some, at, length-drop from before))
    ∙ sym
    (ap (λ xs. take (to - from) (drop from xs)) (expanded_more rs i r lt is)
    ∙ ap (take (to - from)) (drop_appended from before (replicate r.count r.event) ∙ ap (λ ys. drop from before ++ ys) (drop-replicate (from - length before) r.count r.event))
    ∙ take_appended (to - from) (drop from before) (replicate left r.event)
    ∙ ap (λ ys. take (to - from) (drop from before) ++ ys) (take_replicated (to - from - length (drop from before)) left r.event))

-- The events in the list and those to push are at most all events.
pub part_fits : (part before : List Event) (now from to count n most : ℕ) → part ≡ take (to - from) (drop from before) → now ≡ length before → now + count ≤ most → n ≡ min to (now + count) - max from now → length part + n ≤ most
part_fits part before now from to count n most is at fits some = omega (arith, ap length is, length-take (to - from) (drop from before), length-drop from before, at, fits, some)

-- No run is left.
pub part_of_all : (rs : List CountedEvent) (i from to : ℕ) (part all : List Event) → length rs ≤ i → expanded rs ≡ all → part ≡ take (to - from) (drop from (expanded (take i rs))) → part ≡ take (to - from) (drop from all)
part_of_all rs i from to part all end same was = was ∙ ap (λ (qs : List CountedEvent). take (to - from) (drop from (expanded qs))) (take_all i rs end) ∙ ap (λ xs. take (to - from) (drop from xs)) same

-- ---- schedules without loose events

-- The places of the spots are the spots.
places_are : (spots : Spots) → map (place_of 0) spots ≡ spots
places_are [] = refl
places_are (q ∷ spots) = let here : place_of 0 q ≡ q = omega arith in ap (λ p. p ∷ map (place_of 0) spots) here ∙ ap (λ ps. q ∷ ps) (places_are spots)

pub schedule_of_ticks : (upto ticks loose : ℕ) (spots : Spots) → loose ≡ 0 → length spots ≤ ticks → IsNonDecreasing spots → All (λ p. p < upto) spots → IsSchedule upto ticks loose spots
schedule_of_ticks upto ticks zero spots none few rise below = record {
  rising = subst (λ ps. IsNonDecreasing ps) (sym (places_are spots)) rise;
  below = λ k d l. let under = below k d l in omega (arith, under);
  few = omega (arith, few);
  each = λ kind least most. absurd (omega (arith, least, most));
}
schedule_of_ticks upto ticks (suc loose) spots none few rise below = absurd (omega (arith, none))
