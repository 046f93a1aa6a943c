-- Beginnings that advance from before an event: with one more spot, and to after the event.
use Rattle.std.proofs.Common.{◌≡◌, ℕ, zero, suc, ◌+◌, ◌-◌, ◌<◌, ◌≤◌, inl, inr, ◌⊎◌, cond, Option, None, Some, List, [], ◌∷◌, ◌++◌, length, length-append, remove, slice_index_or, refl, ap, ap₂, subst, sym, ◌∙◌, arith}
use Rattle.std.specs.Prelude.{slice_get}
use Rattle.std.proofs.lemmas.Bool.{cases_lt, le-ltb, lt-ltb}
use Rattle.posix.specs.declared.event.Event.{Event}
use Rattle.posix.specs.declared.event.Event.TheVariants.{Tick}
use Rattle.schedules.specs.Families.{Spots, spot}
use Rattle.schedules.specs.Schedules.{event_of}
use Rattle.counting.specs.Tallies.{TallyView, both, no_schedules}
use Rattle.merging.specs.declared.begun.Begun.{Begun}
use Rattle.merging.specs.declared.search.Search.{Search}
use Rattle.merging.specs.Merging.{AllBegun, AreBegun, Outlook, Point, Property, after_event, begun_tally, behind, from_spot, goes_on_tally, kind_at, kind_tally, list_of, loose_of, loose_tally, marks_after, most_of, outlook_of, over_kinds, past_of, past_tally, point_after, point_put, put_tally, slot_tally, slots_tally, state_after, texts_of, tick_tally}
use Rattle.merging.proofs.OutlookLemmas.{event_is_next, none_at_end, none_goes_on, spot_or_event_is_next}
use Rattle.merging.proofs.TallyLemmas.{behind_both, behind_none, behind_place, none_and}

-- ---- each of the loose events that are left

-- After a beginning.
each_behind : (c : ℕ) (q : Spots) (f g : ℕ → List ℕ → TallyView) → ((kind : ℕ) (others : List ℕ) → behind c q (f kind others) ≡ g kind others)
    → (i : ℕ) (left : List ℕ) → behind c q (over_kinds f i left) ≡ over_kinds g i left
each_behind c q f g same zero left = behind_none c q
each_behind c q f g same (suc i) left =
    behind_both c q (over_kinds f i left) (f (slice_index_or left i 0) (remove left i))
    ∙ ap₂ both (each_behind c q f g same i left) (same (slice_index_or left i 0) (remove left i))

-- One more of them is inserted.
pub kind_put : (has : Property) (s : Search) (place i : ℕ) (p : Point) (b : Begun)
    → both (over_kinds (kind_tally has s place p b) i p.left) (put_tally has s place p b (i + 1)) ≡ over_kinds (kind_tally has s place p b) (i + 1) p.left
kind_put has s place i p b =
    let kinds = λ (k : ℕ). over_kinds (kind_tally has s place p b) k p.left in
    let next : suc i ≡ i + 1 = omega arith in
    subst (λ k. both (kinds i) (put_tally has s place p b k) ≡ kinds k) next refl

-- ---- a tick, if one more is allowed

pub tick_some : (has : Property) (s : Search) (place : ℕ) (p : Point) (b : Begun) → length b.spots + length p.left < most_of s → tick_tally has s place p b ≡ put_tally has s place p b 0
tick_some has s place p b few = ap (λ t. cond t (put_tally has s place p b 0) no_schedules) (lt-ltb (length b.spots + length p.left) (most_of s) few)

pub tick_none : (has : Property) (s : Search) (place : ℕ) (p : Point) (b : Begun) → most_of s ≤ length b.spots + length p.left → tick_tally has s place p b ≡ no_schedules
tick_none has s place p b many = ap (λ t. cond t (put_tally has s place p b 0) no_schedules) (le-ltb (length b.spots + length p.left) (most_of s) many)

-- ---- beginnings before an event

-- After them, what runs the event next.
past_behind : (has : Property) (s : Search) (place : ℕ) (x : Event) (p : Point) (b : Begun) → slice_get (list_of s) place ≡ Some x
    → past_tally has s place p b
    ≡ behind b.count b.spots (outlook_of has s (place + 1) (most_of s - length b.spots) p.left (state_after x p.state) (marks_after (texts_of s) x p.state p.marks))
past_behind has s place x p b is = ap (λ o. begun_tally (after_event has s place o) (most_of s) p b) is

-- If no more spot is allowed.
event_alone : (has : Property) (s : Search) (place : ℕ) (x : Event) (p : Point) (b : Begun) → place < s.family.now.upto → slice_get (list_of s) place ≡ Some x → most_of s - length b.spots ≡ 0
    → goes_on_tally has s place p b ≡ past_tally has s place p b
event_alone has s place x p b below is none =
    let q = b.spots in
    ap (λ k. behind b.count q (outlook_of has s place k p.left p.state p.marks)) none
    ∙ ap (behind b.count q) (event_is_next has s place x below is p.left p.state p.marks)
    ∙ ap (λ k. behind b.count q (outlook_of has s (place + 1) k p.left (state_after x p.state) (marks_after (texts_of s) x p.state p.marks))) (sym none)
    ∙ sym (past_behind has s place x p b is)

none_before : (has : Property) (s : Search) (place : ℕ) (p : Point) (b : Begun) → most_of s - length b.spots ≡ 0 → length b.spots + length p.left ≤ most_of s
    → both (tick_tally has s place p b) (loose_tally has s place p b) ≡ no_schedules
none_before has s place p b none few =
    let put_already : length p.left ≡ 0 = omega (arith, none, few) in
    ap₂ both (tick_none has s place p b (omega (arith, none))) (ap (λ i. over_kinds (kind_tally has s place p b) i p.left) put_already)

-- If one more spot is allowed.
put_is_next : (has : Property) (s : Search) (place k kind : ℕ) (others : List ℕ) (p : Point) (b : Begun) → most_of s - length b.spots ≡ suc k
    → behind b.count b.spots
    (from_spot (spot (length (loose_of s)) place kind)
    (outlook_of has s place k others (state_after (event_of (loose_of s) kind) p.state) (marks_after (texts_of s) (event_of (loose_of s) kind) p.state p.marks)))
    ≡ kind_tally has s place p b kind others
put_is_next has s place k kind others p b some =
    let q = b.spots in
    let at = spot (length (loose_of s)) place kind in
    let x = event_of (loose_of s) kind in
    let st = state_after x p.state in
    let marks = marks_after (texts_of s) x p.state p.marks in
    let fewer : k ≡ most_of s - (length q + 1) = omega (arith, some) in
    behind_place b.count q at (outlook_of has s place k others st marks)
    ∙ ap (λ j. behind b.count (q ++ at ∷ []) (outlook_of has s place j others st marks)) fewer

tick_is_next : (has : Property) (s : Search) (place k : ℕ) (p : Point) (b : Begun) → most_of s - length b.spots ≡ suc k
    → behind b.count b.spots
    (from_spot (spot (length (loose_of s)) place 0) (outlook_of has s place k p.left (state_after Tick p.state) (marks_after (texts_of s) Tick p.state p.marks)))
    ≡ tick_tally has s place p b
tick_is_next has s place k p b some = by (cases_lt (length b.spots + length p.left) (most_of s))
  where
    by : (length b.spots + length p.left < most_of s) ⊎ (most_of s ≤ length b.spots + length p.left)
        → behind b.count b.spots
        (from_spot (spot (length (loose_of s)) place 0) (outlook_of has s place k p.left (state_after Tick p.state) (marks_after (texts_of s) Tick p.state p.marks)))
        ≡ tick_tally has s place p b
    by (inl few) = put_is_next has s place k 0 p.left p b some ∙ sym (tick_some has s place p b few)
    by (inr many) =
        let none = none_goes_on has (texts_of s) (loose_of s) (s.family.now.upto - place) place _ k p.left (state_after Tick p.state) (marks_after (texts_of s) Tick p.state p.marks) (omega (arith, some, many)) in
        ap (λ t. behind b.count b.spots (from_spot (spot (length (loose_of s)) place 0) t)) none
        ∙ behind_none b.count b.spots
        ∙ sym (tick_none has s place p b many)

spot_or_event : (has : Property) (s : Search) (place : ℕ) (x : Event) (k : ℕ) (p : Point) (b : Begun) → place < s.family.now.upto → slice_get (list_of s) place ≡ Some x → most_of s - length b.spots ≡ suc k
    → goes_on_tally has s place p b ≡ both (both (tick_tally has s place p b) (loose_tally has s place p b)) (past_tally has s place p b)
spot_or_event has s place x k p b below is some =
    let st = p.state in
    let marks = p.marks in
    let c = b.count in
    let q = b.spots in
    let left = p.left in
    let with_tick = from_spot (spot (length (loose_of s)) place 0) (outlook_of has s place k left (state_after Tick st) (marks_after (texts_of s) Tick st marks)) in
    let with_loose = λ (kind : ℕ) (others : List ℕ). from_spot (spot (length (loose_of s)) place kind)
    (outlook_of has s place k others (state_after (event_of (loose_of s) kind) st) (marks_after (texts_of s) (event_of (loose_of s) kind) st marks)) in
    let all_loose = over_kinds with_loose (length left) left in
    let later = outlook_of has s (place + 1) (suc k) left (state_after x st) (marks_after (texts_of s) x st marks) in
    ap (λ j. behind c q (outlook_of has s place j left st marks)) some
    ∙ ap (behind c q) (spot_or_event_is_next has s place x below is k left st marks)
    ∙ behind_both c q (both with_tick all_loose) later
    ∙ ap₂ both
    (behind_both c q with_tick all_loose
    ∙ ap₂ both (tick_is_next has s place k p b some)
    (each_behind c q with_loose (kind_tally has s place p b) (λ kind others. put_is_next has s place k kind others p b some) (length left) left))
    (ap (λ j. behind c q (outlook_of has s (place + 1) j left (state_after x st) (marks_after (texts_of s) x st marks))) (sym some) ∙ sym (past_behind has s place x p b is))

-- A tick is inserted, or a loose event, or the event is next.
pub begun_parts : (has : Property) (s : Search) (place : ℕ) (x : Event) (p : Point) (b : Begun) → AreBegun s place p b → place < s.family.now.upto → slice_get (list_of s) place ≡ Some x
    → goes_on_tally has s place p b ≡ both (both (tick_tally has s place p b) (loose_tally has s place p b)) (past_tally has s place p b)
begun_parts has s place x p b begun below is = by (most_of s - length b.spots) refl
  where
    by : (k : ℕ) → most_of s - length b.spots ≡ k
        → goes_on_tally has s place p b ≡ both (both (tick_tally has s place p b) (loose_tally has s place p b)) (past_tally has s place p b)
    by zero none =
        event_alone has s place x p b below is none
        ∙ sym (none_and (past_tally has s place p b))
        ∙ ap (λ t. both t (past_tally has s place p b)) (sym (none_before has s place p b none begun.few))
    by (suc k) some = spot_or_event has s place x k p b below is some

-- ---- beginnings with one more spot

pub put_is : (has : Property) (s : Search) (place which q : ℕ) (p : Point) (b c : Begun) → q ≡ spot (length (loose_of s)) place (kind_at which p.left) → c.count ≡ b.count
    → c.spots ≡ b.spots ++ q ∷ [] → goes_on_tally has s place (point_put s which p) c ≡ put_tally has s place p b which
put_is has s place which q p b c at count spots =
    let to = point_put s which p in
    let go_on = λ (k : ℕ). outlook_of has s place (most_of s - k) to.left to.state to.marks in
    let longer : length c.spots ≡ length b.spots + 1 = ap length spots ∙ length-append b.spots (q ∷ []) in
    ap₂ (λ n (qs : Spots). behind n qs (go_on (length c.spots))) count (spots ∙ ap (λ r. b.spots ++ r ∷ []) at)
    ∙ ap (λ k. behind b.count (b.spots ++ spot (length (loose_of s)) place (kind_at which p.left) ∷ []) (go_on k)) longer

-- ---- beginnings after an event

pub past_is : (has : Property) (s : Search) (place : ℕ) (x : Event) (p q : Point) (bs : List (Option Begun)) → slice_get (list_of s) place ≡ Some x → q ≡ point_after s x p.left p
    → slots_tally (past_of has s place) (most_of s) p bs ≡ slots_tally (outlook_of has s (place + 1)) (most_of s) q bs
past_is has s place x p q [] is after = refl
past_is has s place x p q (b ∷ bs) is after = ap₂ both (by b) (past_is has s place x p q bs is after)
  where
    by : (o : Option Begun) → slot_tally (past_of has s place) (most_of s) p o ≡ slot_tally (outlook_of has s (place + 1)) (most_of s) q o
    by None = refl
    by (Some b) = past_behind has s place x p b is ∙ ap (λ r. goes_on_tally has s (place + 1) r b) (sym after)

-- ---- no schedule continues

-- If none does from the point.
slots_none : (go_on : Outlook) (most : ℕ) (p : Point) (bs : List (Option Begun)) → ((n : ℕ) → go_on n p.left p.state p.marks ≡ no_schedules) → slots_tally go_on most p bs ≡ no_schedules
slots_none go_on most p [] none = refl
slots_none go_on most p (None ∷ bs) none = ap (both no_schedules) (slots_none go_on most p bs none)
slots_none go_on most p (Some b ∷ bs) none =
    ap₂ both (ap (behind b.count b.spots) (none (most - length b.spots)) ∙ behind_none b.count b.spots) (slots_none go_on most p bs none)

-- If a loose event is left after the last event before which it can be inserted.
pub none_past : (has : Property) (s : Search) (place : ℕ) (p : Point) (bs : List (Option Begun)) → place + 1 ≡ s.family.now.upto → 0 < length p.left
    → slots_tally (past_of has s place) (most_of s) p bs ≡ no_schedules
none_past has s place p bs end some = slots_none (past_of has s place) (most_of s) p bs (by (slice_get (list_of s) place))
  where
    by : (o : Option Event) (n : ℕ) → after_event has s place o n p.left p.state p.marks ≡ no_schedules
    by None n = refl
    by (Some x) n =
        let st = state_after x p.state in
        let marks = marks_after (texts_of s) x p.state p.marks in
        ap (λ at. outlook_of has s at n p.left st marks) end ∙ none_at_end has s n p.left st marks some

-- If all beginnings have more spots than are allowed.
pub no_begun : (go_on : Outlook) (s : Search) (place most : ℕ) (p : Point) (bs : List (Option Begun)) → AllBegun s place (most_of s + 1) p bs → slots_tally go_on most p bs ≡ no_schedules
no_begun go_on s place most p [] all = refl
no_begun go_on s place most p (None ∷ bs) all = ap (both no_schedules) (no_begun go_on s place most p bs (λ k. all (suc k)))
no_begun go_on s place most p (Some b ∷ bs) all =
    let here = all 0 b refl in
    absurd (omega arith)
