-- The schedules that continue from a state, one by one, count the same as the whole family.
use Rattle.std.proofs.Common.{◌≡◌, ℕ, zero, suc, ◌+◌, ◌-◌, ◌<◌, ◌≤◌, inl, inr, Bool, true, false, ◌||◌, ◌&&◌, ◌==◌, cond, Option, Some, None, List, [], ◌∷◌, ◌++◌, length, map, find, take, drop, remove, slice_index_or, refl, ap, ap₂, sym, ◌∙◌, append-nil, arith}
use Rattle.std.specs.Prelude.{count_by, nat_lt, slice_get, IfSome}
use Rattle.std.specs.List.{All, AllPairs, list_any}
use Rattle.std.proofs.Math.Bool.{or_assoc}
use Rattle.std.proofs.lemmas.Bool.Decides.{nat_tests}
use Rattle.std.proofs.lemmas.List.{map-append}
use Rattle.std.proofs.lemmas.List.Elements.{All-head, All-tail, All-weaker}
use Rattle.std.proofs.lemmas.List.Folds.{list_any-append}
use Rattle.std.proofs.lemmas.List.Sums.{sum_by-cons}
use Rattle.posix.specs.declared.entry.Entry.{Entry}
use Rattle.posix.specs.declared.event.Event.{Event}
use Rattle.posix.specs.Common.{Line, numbered, State, World, boot, next}
use Rattle.schedules.specs.Families.{IsBefore, IsEarlier, IsSchedule, Spots, each_kind, family, kinds_of, of_at_most, of_spots, place_of, spot, with_spot}
use Rattle.schedules.specs.Schedules.{event_of, from_front, scheduled}
use Rattle.schedules.proofs.FamilyLemmas.{AreKinds, IsAtMost, all_kinds, at_most_is, in_order, kind_of_spot, kinds_left, place_of_spot}
use Rattle.schedules.proofs.ScheduledLemmas.{event_next, front}
use Rattle.counting.specs.Counts.{tally_over}
use Rattle.counting.specs.Courses.{course_from, course_of}
use Rattle.counting.specs.Endings.{ending_of}
use Rattle.counting.specs.Tallies.{TallyView, both, first_of, is_before, is_earlier, no_schedules}
use Rattle.counting.specs.Patterns.{has_pattern}
use Rattle.counting.specs.Texts.{have_text, marked, unmarked}
use Rattle.counting.proofs.CountLemmas.{first_found, members}
use Rattle.merging.specs.Merging.{Property, from_spot, if_none_left, marks_after, one_if, over_kinds, state_after, tally_at_place, tally_from, tally_of_rest}
use Rattle.merging.proofs.TallyLemmas.{and_none, both_regrouped, exchanged, first_begun, first_if_before, none_and, step_equal, two_by_two}

-- ---- by the definitions

-- No place is left.
pub tally_at_rest : (has : Property) (texts : List (List ℕ)) (loose : List Event) (p : ℕ) (events : List Event) (n : ℕ) (left : List ℕ) (s : State) (marks : List Bool)
    → tally_from has texts loose zero p events n left s marks ≡ if_none_left left (tally_of_rest has texts events s marks)
unfolding tally_from
tally_at_rest has texts loose p events n left s marks = refl

-- Nothing more is inserted: what remains is how the run ends.
pub tally_rest_is : (has : Property) (texts : List (List ℕ)) (events : List Event) (s : State) (marks : List Bool)
    → tally_of_rest has texts events s marks ≡ one_if (has (ending_of (course_from 1 s events).last) (marked texts (course_from 1 s events).lines marks))
unfolding tally_of_rest
tally_rest_is has texts events s marks = refl

-- ---- marks of texts

-- The mark of a text.
pub mark_is : (texts : List (List ℕ)) (lines : List Line) (i : ℕ) (t : List ℕ) → slice_get texts i ≡ Some t → slice_index_or (marked texts lines (unmarked texts)) i false ≡ have_text t lines
mark_is [] lines i t e = cc
mark_is (u ∷ texts) lines zero t e = let same : u ≡ t = cc in ap (λ x. have_text x lines) same
mark_is (u ∷ texts) lines (suc i) t e = mark_is texts lines i t e

-- By the first lines, and then by the others.
pub marked_then : (texts : List (List ℕ)) (ls ms : List Line) (marks : List Bool) → marked texts (ls ++ ms) marks ≡ marked texts ms (marked texts ls marks)
marked_then [] ls ms marks = refl
marked_then (t ∷ ts) ls ms [] = refl
marked_then (t ∷ ts) ls ms (m ∷ marks) =
    ap₂ (λ b bs. b ∷ bs)
    (ap (λ b. m || b) (list_any-append (λ (l : Line). has_pattern t l.entry) ls ms) ∙ sym (or_assoc m (have_text t ls) (have_text t ms)))
    (marked_then ts ls ms marks)

abbrev entries_of : List Line → List Entry
entries_of lines = map (λ l. l.entry) lines

-- The numbers of the lines don't matter.
have_by_entries : (t : List ℕ) (lines : List Line) → have_text t lines ≡ list_any (λ (e : Entry). has_pattern t e) (entries_of lines)
have_by_entries t [] = refl
have_by_entries t (l ∷ lines) = ap (λ b. has_pattern t l.entry || b) (have_by_entries t lines)

pub marked_by_entries : (texts : List (List ℕ)) (ls ms : List Line) (marks : List Bool) → map (λ (l : Line). l.entry) ls ≡ map (λ (l : Line). l.entry) ms → marked texts ls marks ≡ marked texts ms marks
marked_by_entries [] ls ms marks e = refl
marked_by_entries (t ∷ ts) ls ms [] e = refl
marked_by_entries (t ∷ ts) ls ms (m ∷ marks) e =
    ap₂ (λ b bs. (m || b) ∷ bs)
    (have_by_entries t ls ∙ ap (list_any (λ (x : Entry). has_pattern t x)) e ∙ sym (have_by_entries t ms))
    (marked_by_entries ts ls ms marks e)

-- ---- the tally of schedules, one by one

abbrev one_of : Bool → Spots → TallyView
one_of has ps = cond has (record { count = 1; first = Some ps }) no_schedules

abbrev tally_each : (Spots → Bool) → List Spots → TallyView
tally_each has [] = no_schedules
tally_each has (ps ∷ schedules) = both (one_of (has ps) ps) (tally_each has schedules)

each_joined : (has : Spots → Bool) (xs ys : List Spots) → tally_each has (xs ++ ys) ≡ both (tally_each has xs) (tally_each has ys)
each_joined has [] ys = sym (none_and (tally_each has ys))
each_joined has (x ∷ xs) ys =
    ap (both (one_of (has x) x)) (each_joined has xs ys)
    ∙ sym (both_regrouped (one_of (has x) x) (tally_each has xs) (tally_each has ys))

each_same : (f g : Spots → Bool) (xs : List Spots) → All (λ ps. f ps ≡ g ps) xs → tally_each f xs ≡ tally_each g xs
each_same f g [] a = refl
each_same f g (x ∷ xs) a =
    ap₂ (λ b t. both (one_of b x) t) (All-head (λ ps. f ps ≡ g ps) x xs a) (each_same f g xs (All-tail (λ ps. f ps ≡ g ps) x xs a))

from_both : (p : ℕ) (a b : TallyView) → from_spot p (both a b) ≡ both (from_spot p a) (from_spot p b)
from_both p a b = ap (λ o. record { count = a.count + b.count; first = o }) (first_begun (p ∷ []) a.first b.first)

from_one : (p : ℕ) (b : Bool) (ps : Spots) → from_spot p (one_of b ps) ≡ one_of b (p ∷ ps)
from_one p true ps = refl
from_one p false ps = refl

each_from_spot : (has : Spots → Bool) (p : ℕ) (xs : List Spots) → tally_each has (with_spot p xs) ≡ from_spot p (tally_each (λ ps. has (p ∷ ps)) xs)
each_from_spot has p [] = refl
each_from_spot has p (x ∷ xs) =
    ap₂ both (sym (from_one p (has (p ∷ x)) x)) (each_from_spot has p xs)
    ∙ sym (from_both p (one_of (has (p ∷ x)) x) (tally_each (λ ps. has (p ∷ ps)) xs))

-- Over schedules in order, the tally is how many have the property, and the first one that is found.

less_says : (m n : ℕ) (b : Bool) → m < n → (nat_lt m n || (m == n && b)) ≡ true
less_says m n b l = grind (arith, nat_tests)

earlier_says : (ps qs : Spots) → IsEarlier ps qs → is_earlier ps qs ≡ true
earlier_says [] qs e = absurd e
earlier_says (p ∷ ps) [] e = absurd e
earlier_says (p ∷ ps) (q ∷ qs) (inl less) = less_says p q (is_earlier ps qs) less
earlier_says (p ∷ ps) (q ∷ qs) (inr same) = step_equal p q (is_earlier ps qs) same.0 ∙ earlier_says ps qs same.1

before_says : (ps qs : Spots) → IsBefore ps qs → is_before ps qs ≡ true
before_says ps qs (inl less) = less_says (length ps) (length qs) (is_earlier ps qs) less
before_says ps qs (inr same) = step_equal (length ps) (length qs) (is_earlier ps qs) same.0 ∙ earlier_says ps qs same.1

first_stays : (x : Spots) (o : Option Spots) → IfSome o (IsBefore x) → first_of (Some x) o ≡ Some x
first_stays x None h = refl
first_stays x (Some y) h = ap (λ ps. Some ps) (first_if_before x y (before_says x y h))

found_first : (b : Bool) (x : Spots) (o : Option Spots) → IfSome o (IsBefore x) → cond b (Some x) o ≡ first_of (one_of b x).first o
found_first true x o h = sym (first_stays x o h)
found_first false x o h = refl

counted_first : (b : Bool) (x : Spots) (n : ℕ) → cond b 1 0 + n ≡ (one_of b x).count + n
counted_first true x n = refl
counted_first false x n = refl

over_each : (has : Spots → Bool) (xs : List Spots) → AllPairs IsBefore xs → tally_over has xs ≡ tally_each has xs
over_each has [] h = refl
over_each has (x ∷ xs) h =
    let behind : All (IsBefore x) xs = λ k d l. h 0 (suc k) d (omega arith) (omega (arith, l)) in
    let rest : AllPairs IsBefore xs = λ i j d l m. h (suc i) (suc j) d (omega (arith, l)) (omega (arith, m)) in
    ap₂ (λ n o. record { count = n; first = o })
    (sum_by-cons (λ (ps : Spots). cond (has ps) 1 0) x xs ∙ counted_first (has x) x (count_by has xs))
    (found_first (has x) x (find has xs) (first_found (IsBefore x) has xs behind))
    ∙ ap (both (one_of (has x) x)) (over_each has xs rest)

-- ---- of several tallies

-- With each kind that is left.

pub over_kinds_same : (f g : ℕ → List ℕ → TallyView) (i : ℕ) (left : List ℕ) → ((k : ℕ) → k < i → f (slice_index_or left k 0) (remove left k) ≡ g (slice_index_or left k 0) (remove left k))
    → over_kinds f i left ≡ over_kinds g i left
over_kinds_same f g zero left e = refl
over_kinds_same f g (suc i) left e = ap₂ both (over_kinds_same f g i left (λ k l. e k (omega (arith, l)))) (e i (omega arith))

over_kinds_both : (f g : ℕ → List ℕ → TallyView) (i : ℕ) (left : List ℕ) → over_kinds (λ kind others. both (f kind others) (g kind others)) i left ≡ both (over_kinds f i left) (over_kinds g i left)
over_kinds_both f g zero left = refl
over_kinds_both f g (suc i) left =
    let kind = slice_index_or left i 0 in
    let others = remove left i in
    ap (λ t. both t (both (f kind others) (g kind others))) (over_kinds_both f g i left)
    ∙ two_by_two (over_kinds f i left) (over_kinds g i left) (f kind others) (g kind others)

each_kind_counted : (has : Spots → Bool) (f : ℕ → List ℕ → List Spots) (i : ℕ) (kinds : List ℕ) → tally_each has (each_kind f i kinds) ≡ over_kinds (λ kind others. tally_each has (f kind others)) i kinds
each_kind_counted has f zero kinds = refl
each_kind_counted has f (suc i) kinds =
    let last = f (slice_index_or kinds i 0) (remove kinds i) in
    each_joined has (each_kind f i kinds) last
    ∙ ap (λ t. both t (tally_each has last)) (each_kind_counted has f i kinds)

-- ---- a family, from a place on

-- With this spot in front of each.
abbrev behind_spot : (Spots → Bool) → ℕ → List Spots → TallyView
behind_spot has q schedules = from_spot q (tally_each (λ ps. has (q ∷ ps)) schedules)

behind_spot_joined : (has : Spots → Bool) (q : ℕ) (xs ys : List Spots) → behind_spot has q (xs ++ ys) ≡ both (behind_spot has q xs) (behind_spot has q ys)
behind_spot_joined has q xs ys =
    let has_then = λ (ps : Spots). has (q ∷ ps) in
    ap (from_spot q) (each_joined has_then xs ys) ∙ from_both q (tally_each has_then xs) (tally_each has_then ys)

-- With a tick, or one of these kinds, inserted first at the place; f has the schedules that continue.
abbrev put_first : (Spots → Bool) → ℕ → ℕ → (List ℕ → List Spots) → List ℕ → TallyView
put_first has loose p f kinds =
    both (behind_spot has (spot loose p 0) (f kinds)) (over_kinds (λ kind others. behind_spot has (spot loose p kind) (f others)) (length kinds) kinds)

put_first_joined : (has : Spots → Bool) (loose p : ℕ) (f g : List ℕ → List Spots) (kinds : List ℕ)
    → put_first has loose p (λ ks. f ks ++ g ks) kinds ≡ both (put_first has loose p f kinds) (put_first has loose p g kinds)
put_first_joined has loose p f g kinds =
    let with_f = λ (kind : ℕ) (others : List ℕ). behind_spot has (spot loose p kind) (f others) in
    let with_g = λ (kind : ℕ) (others : List ℕ). behind_spot has (spot loose p kind) (g others) in
    ap₂ both (behind_spot_joined has (spot loose p 0) (f kinds) (g kinds))
    (over_kinds_same (λ kind others. behind_spot has (spot loose p kind) (f others ++ g others)) (λ kind others. both (with_f kind others) (with_g kind others)) (length kinds) kinds
    (λ k l. behind_spot_joined has (spot loose p (slice_index_or kinds k 0)) (f (remove kinds k)) (g (remove kinds k)))
    ∙ over_kinds_both with_f with_g (length kinds) kinds)
    ∙ two_by_two (behind_spot has (spot loose p 0) (f kinds)) (behind_spot has (spot loose p 0) (g kinds)) (over_kinds with_f (length kinds) kinds) (over_kinds with_g (length kinds) kinds)

-- Of one more spot than n.

level_parts : (has : Spots → Bool) (loose n : ℕ) (kinds : List ℕ) (p places : ℕ) → tally_each has (of_spots loose (suc n) kinds p (suc places))
    ≡ both (put_first has loose p (λ ks. of_spots loose n ks p (suc places)) kinds) (tally_each has (of_spots loose (suc n) kinds (p + 1) places))
level_parts has loose n kinds p places =
    let at_kind = λ (kind : ℕ) (others : List ℕ). with_spot (spot loose p kind) (of_spots loose n others p (suc places)) in
    let ticked = at_kind 0 kinds in
    let put = each_kind at_kind (length kinds) kinds in
    let later = of_spots loose (suc n) kinds (p + 1) places in
    each_joined has (ticked ++ put) later
    ∙ ap (λ t. both t (tally_each has later))
    (each_joined has ticked put
    ∙ ap₂ both (each_from_spot has (spot loose p 0) (of_spots loose n kinds p (suc places)))
    (each_kind_counted has at_kind (length kinds) kinds
    ∙ over_kinds_same (λ kind others. tally_each has (at_kind kind others)) (λ kind others. behind_spot has (spot loose p kind) (of_spots loose n others p (suc places))) (length kinds) kinds
    (λ k l. each_from_spot has (spot loose p (slice_index_or kinds k 0)) (of_spots loose n (remove kinds k) p (suc places)))))

-- Without spots the places make no difference.
no_spots : (loose : ℕ) (kinds : List ℕ) (p places q more : ℕ) → of_spots loose zero kinds p places ≡ of_spots loose zero kinds q more
no_spots loose [] p places q more = refl
no_spots loose (kind ∷ kinds) p places q more = refl

no_places : (loose n : ℕ) (kinds : List ℕ) (p : ℕ) → of_at_most loose n kinds p zero ≡ of_spots loose zero kinds p zero
unfolding of_at_most
no_places loose zero kinds p = refl
no_places loose (suc n) kinds p = append-nil (of_at_most loose n kinds p zero) ∙ no_places loose n kinds p

-- With the first spot at the first place, or with none there.
family_parts : (has : Spots → Bool) (loose n : ℕ) (kinds : List ℕ) (p places : ℕ) → tally_each has (of_at_most loose (suc n) kinds p (suc places))
    ≡ both (put_first has loose p (λ ks. of_at_most loose n ks p (suc places)) kinds) (tally_each has (of_at_most loose (suc n) kinds (p + 1) places))
unfolding of_at_most
family_parts has loose zero kinds p places =
    let put = put_first has loose p (λ ks. of_spots loose zero ks p (suc places)) kinds in
    let later = tally_each has (of_spots loose (suc zero) kinds (p + 1) places) in
    let none = tally_each has (of_spots loose zero kinds (p + 1) places) in
    each_joined has (of_spots loose zero kinds p (suc places)) (of_spots loose (suc zero) kinds p (suc places))
    ∙ ap₂ both (ap (tally_each has) (no_spots loose kinds p (suc places) (p + 1) places)) (level_parts has loose zero kinds p places)
    ∙ exchanged none put later
    ∙ ap (both put) (sym (each_joined has (of_spots loose zero kinds (p + 1) places) (of_spots loose (suc zero) kinds (p + 1) places)))
family_parts has loose (suc n) kinds p places =
    let fewer = λ (ks : List ℕ). of_at_most loose n ks p (suc places) in
    let most = λ (ks : List ℕ). of_spots loose (suc n) ks p (suc places) in
    let fewer_later = of_at_most loose (suc n) kinds (p + 1) places in
    let most_later = of_spots loose (suc (suc n)) kinds (p + 1) places in
    each_joined has (of_at_most loose (suc n) kinds p (suc places)) (of_spots loose (suc (suc n)) kinds p (suc places))
    ∙ ap₂ both (family_parts has loose n kinds p places) (level_parts has loose (suc n) kinds p places)
    ∙ two_by_two (put_first has loose p fewer kinds) (tally_each has fewer_later) (put_first has loose p most kinds) (tally_each has most_later)
    ∙ ap₂ both (sym (put_first_joined has loose p fewer most kinds)) (sym (each_joined has fewer_later most_later))

-- ---- the run from a state

-- The run of these events has the property.
abbrev holds_from : Property → List (List ℕ) → State → List Bool → List Event → Bool
holds_from has texts s marks events = has (ending_of (course_from 1 s events).last) (marked texts (course_from 1 s events).lines marks)

pub entries_numbered : (k : ℕ) (entries : List Entry) → map (λ (l : Line). l.entry) (numbered k entries) ≡ entries
entries_numbered k [] = refl
entries_numbered k (e ∷ es) = ap (λ xs. e ∷ xs) (entries_numbered k es)

pub entries_alike : (j k : ℕ) (s : State) (events : List Event) → map (λ (l : Line). l.entry) (course_from j s events).lines ≡ map (λ (l : Line). l.entry) (course_from k s events).lines
entries_alike j k s [] = refl
entries_alike j k s (x ∷ events) =
    let o = next true s x in
    map-append (λ (l : Line). l.entry) (numbered j o.entries) (course_from (j + 1) o.state events).lines
    ∙ ap₂ (λ xs ys. xs ++ ys) (entries_numbered j o.entries ∙ sym (entries_numbered k o.entries)) (entries_alike (j + 1) (k + 1) o.state events)
    ∙ sym (map-append (λ (l : Line). l.entry) (numbered k o.entries) (course_from (k + 1) o.state events).lines)

pub last_alike : (j k : ℕ) (s : State) (events : List Event) → (course_from j s events).last ≡ (course_from k s events).last
last_alike j k s [] = refl
last_alike j k s (x ∷ events) = last_alike (j + 1) (k + 1) (next true s x).state events

holds_next : (has : Property) (texts : List (List ℕ)) (s : State) (marks : List Bool) (x : Event) (events : List Event)
    → holds_from has texts s marks (x ∷ events) ≡ holds_from has texts (state_after x s) (marks_after texts x s marks) events
holds_next has texts s marks x events =
    let o = next true s x in
    ap₂ has
    (ap ending_of (last_alike (1 + 1) 1 o.state events))
    (marked_then texts (numbered 1 o.entries) (course_from (1 + 1) o.state events).lines marks
    ∙ marked_by_entries texts (course_from (1 + 1) o.state events).lines (course_from 1 o.state events).lines (marks_after texts x s marks) (entries_alike (1 + 1) 1 o.state events))

-- ---- the events of a schedule, one by one

put_next : (loose : List Event) (p : ℕ) (events : List Event) (kind : ℕ) (ps : Spots) → kind ≤ length loose
    → from_front loose p events (spot (length loose) p kind ∷ ps) ≡ event_of loose kind ∷ from_front loose p events ps
unfolding from_front
put_next loose p events kind ps few =
    let here : p - p ≡ 0 = omega arith in
    ap₂ (λ m k. take (m - p) events ++ event_of loose k ∷ from_front loose m (drop (m - p) events) ps) (place_of_spot (length loose) p kind few) (kind_of_spot (length loose) p kind few)
    ∙ ap (λ n. take n events ++ event_of loose kind ∷ from_front loose p (drop n events) ps) here

-- ---- the tally from a state, over the schedules that continue

each_with_put : (has : Property) (texts : List (List ℕ)) (loose : List Event) (p : ℕ) (events : List Event) (s : State) (marks : List Bool) (kind : ℕ) (xs : List Spots) → kind ≤ length loose
    → tally_each (λ ps. holds_from has texts (state_after (event_of loose kind) s) (marks_after texts (event_of loose kind) s marks) (from_front loose p events ps)) xs
    ≡ tally_each (λ ps. holds_from has texts s marks (from_front loose p events (spot (length loose) p kind ∷ ps))) xs
each_with_put has texts loose p events s marks kind xs few =
    each_same (λ ps. holds_from has texts (state_after x s) (marks_after texts x s marks) (from_front loose p events ps))
    (λ ps. holds_from has texts s marks (from_front loose p events (spot (length loose) p kind ∷ ps))) xs
    (λ k d l. with_put (slice_index_or xs k d))
  where
    x : Event
    x = event_of loose kind

    with_put : (ps : Spots) → holds_from has texts (state_after x s) (marks_after texts x s marks) (from_front loose p events ps)
        ≡ holds_from has texts s marks (from_front loose p events (spot (length loose) p kind ∷ ps))
    with_put ps = sym (ap (holds_from has texts s marks) (put_next loose p events kind ps few) ∙ holds_next has texts s marks x (from_front loose p events ps))

each_with_event : (has : Property) (texts : List (List ℕ)) (loose : List Event) (p : ℕ) (x : Event) (events : List Event) (n : ℕ) (left : List ℕ) (s : State) (marks : List Bool) (places : ℕ)
    → AreKinds (length loose) left
    → tally_each (λ ps. holds_from has texts (state_after x s) (marks_after texts x s marks) (from_front loose (p + 1) events ps)) (of_at_most (length loose) n left (p + 1) places)
    ≡ tally_each (λ ps. holds_from has texts s marks (from_front loose p (x ∷ events) ps)) (of_at_most (length loose) n left (p + 1) places)
each_with_event has texts loose p x events n left s marks places kinds =
    each_same (λ ps. holds_from has texts (state_after x s) (marks_after texts x s marks) (from_front loose (p + 1) events ps))
    (λ ps. holds_from has texts s marks (from_front loose p (x ∷ events) ps)) (of_at_most (length loose) n left (p + 1) places)
    (All-weaker (IsAtMost (length loose) n left (p + 1) (p + 1 + places))
    (λ ps. holds_from has texts (state_after x s) (marks_after texts x s marks) (from_front loose (p + 1) events ps) ≡ holds_from has texts s marks (from_front loose p (x ∷ events) ps))
    with_event (of_at_most (length loose) n left (p + 1) places) (at_most_is (length loose) n left (p + 1) places (p + 1 + places) kinds refl))
  where
    with_event : (ps : Spots) → IsAtMost (length loose) n left (p + 1) (p + 1 + places) ps
        → holds_from has texts (state_after x s) (marks_after texts x s marks) (from_front loose (p + 1) events ps) ≡ holds_from has texts s marks (from_front loose p (x ∷ events) ps)
    with_event ps is = sym (ap (holds_from has texts s marks) (event_next loose p (p + 1 + places) x events ps is.rise) ∙ holds_next has texts s marks x (from_front loose (p + 1) events ps))

-- The tally from a state, with this many places for insertions, is that of the schedules that continue from there.
abbrev IsEach : Property → List (List ℕ) → List Event → ℕ → ℕ → List Event → Type 0
IsEach has texts loose places p events = (n : ℕ) (left : List ℕ) (s : State) (marks : List Bool) → AreKinds (length loose) left
    → tally_from has texts loose places p events n left s marks ≡ tally_each (λ ps. holds_from has texts s marks (from_front loose p events ps)) (of_at_most (length loose) n left p places)

-- If one of these kinds is inserted, which may be a tick.
kind_put : (has : Property) (texts : List (List ℕ)) (loose : List Event) (places p : ℕ) (events : List Event) (n : ℕ) (others : List ℕ) (s : State) (marks : List Bool) (kind : ℕ) → kind ≤ length loose
    → tally_from has texts loose places p events n others (state_after (event_of loose kind) s) (marks_after texts (event_of loose kind) s marks)
    ≡ tally_each (λ ps. holds_from has texts (state_after (event_of loose kind) s) (marks_after texts (event_of loose kind) s marks) (from_front loose p events ps)) (of_at_most (length loose) n others p places)
    → from_spot (spot (length loose) p kind) (tally_from has texts loose places p events n others (state_after (event_of loose kind) s) (marks_after texts (event_of loose kind) s marks))
    ≡ behind_spot (λ ps. holds_from has texts s marks (from_front loose p events ps)) (spot (length loose) p kind) (of_at_most (length loose) n others p places)
kind_put has texts loose places p events n others s marks kind known from_here =
    ap (from_spot (spot (length loose) p kind)) (from_here ∙ each_with_put has texts loose p events s marks kind (of_at_most (length loose) n others p places) known)

-- At one place, if it holds from the place after.
at_place : (has : Property) (texts : List (List ℕ)) (loose : List Event) (places p : ℕ) (x : Event) (events : List Event) → IsEach has texts loose places (p + 1) events
    → IsEach has texts loose (suc places) p (x ∷ events)
unfolding tally_from tally_at_place of_at_most
at_place has texts loose places p x events later zero left s marks few =
    later zero left (state_after x s) (marks_after texts x s marks) few
    ∙ each_with_event has texts loose p x events zero left s marks places few
    ∙ ap (tally_each (λ ps. holds_from has texts s marks (from_front loose p (x ∷ events) ps))) (no_spots (length loose) left (p + 1) places p (suc places))
at_place has texts loose places p x events later (suc n) left s marks few =
    let holds = λ (ps : Spots). holds_from has texts s marks (from_front loose p (x ∷ events) ps) in
    let here = λ (kind : ℕ) (others : List ℕ). tally_from has texts loose (suc places) p (x ∷ events) n others (state_after (event_of loose kind) s) (marks_after texts (event_of loose kind) s marks) in
    let from_here = λ (kind : ℕ) (others : List ℕ) (fit : AreKinds (length loose) others).
    at_place has texts loose places p x events later n others (state_after (event_of loose kind) s) (marks_after texts (event_of loose kind) s marks) fit in
    ap₂ both
    (ap₂ both (kind_put has texts loose (suc places) p (x ∷ events) n left s marks 0 (omega arith) (from_here 0 left few))
    (over_kinds_same (λ kind others. from_spot (spot (length loose) p kind) (here kind others))
    (λ kind others. behind_spot holds (spot (length loose) p kind) (of_at_most (length loose) n others p (suc places))) (length left) left
    (λ k l. kind_put has texts loose (suc places) p (x ∷ events) n (remove left k) s marks (slice_index_or left k 0) (few.most k 0 l)
    (from_here (slice_index_or left k 0) (remove left k) (kinds_left (length loose) left k l few)))))
    (later (suc n) left (state_after x s) (marks_after texts x s marks) few ∙ each_with_event has texts loose p x events (suc n) left s marks places few)
    ∙ sym (family_parts holds (length loose) n left p places)

one_with_none : (b : Bool) → one_if b ≡ both (one_of b []) no_schedules
one_with_none true = sym (and_none (one_of true []))
one_with_none false = sym (and_none no_schedules)

-- After the last place.
at_end : (has : Spots → Bool) (loose : ℕ) (left : List ℕ) (p : ℕ) → if_none_left left (one_if (has [])) ≡ tally_each has (of_spots loose zero left p zero)
at_end has loose [] p = one_with_none (has [])
at_end has loose (kind ∷ left) p = refl

from_state : (has : Property) (texts : List (List ℕ)) (loose : List Event) (places p : ℕ) (events : List Event) → places ≤ length events → IsEach has texts loose places p events
unfolding tally_of_rest from_front
from_state has texts loose zero p events l n left s marks few =
    tally_at_rest has texts loose p events n left s marks
    ∙ at_end (λ ps. holds_from has texts s marks (from_front loose p events ps)) (length loose) left p
    ∙ sym (ap (tally_each (λ ps. holds_from has texts s marks (from_front loose p events ps))) (no_places (length loose) n left p))
from_state has texts loose (suc places) p [] l n left s marks few = absurd (omega (arith, l))
from_state has texts loose (suc places) p (x ∷ events) l n left s marks few =
    at_place has texts loose places p x events (from_state has texts loose places (p + 1) events (omega (arith, l))) n left s marks few

-- The tally from the start of a world, with merged schedules counted together, is that over the family.
pub merged_tally : (has : Property) (texts : List (List ℕ)) (world : World) (loose events : List Event) (upto ticks : ℕ) → upto ≤ length events
    → tally_from has texts loose upto 0 events (ticks + length loose) (kinds_of (length loose)) (boot world) (unmarked texts)
    ≡ tally_over (λ ps. has (ending_of (course_of world loose events ps).last) (marked texts (course_of world loose events ps).lines (unmarked texts))) (family upto ticks (length loose))
unfolding course_of
merged_tally has texts world loose events upto ticks l =
    from_state has texts loose upto 0 events l (ticks + length loose) (kinds_of (length loose)) (boot world) (unmarked texts) (all_kinds (length loose))
    ∙ each_same (λ ps. holds (from_front loose 0 events ps)) (λ ps. holds (scheduled loose events ps)) all
    (All-weaker (IsSchedule upto ticks (length loose)) (λ ps. holds (from_front loose 0 events ps) ≡ holds (scheduled loose events ps)) whole all (members upto ticks (length loose)))
    ∙ sym (over_each (λ ps. holds (scheduled loose events ps)) all (in_order upto ticks (length loose)))
  where
    holds : List Event → Bool
    holds = holds_from has texts (boot world) (unmarked texts)

    all : List Spots
    all = family upto ticks (length loose)

    whole : (ps : Spots) → IsSchedule upto ticks (length loose) ps → holds (from_front loose 0 events ps) ≡ holds (scheduled loose events ps)
    whole ps i = ap holds (sym (front loose events ps i.rising
        (All-weaker (λ q. place_of (length loose) q < upto) (λ q. place_of (length loose) q ≤ length events) (λ q b. omega (arith, b, l)) ps i.below)))
