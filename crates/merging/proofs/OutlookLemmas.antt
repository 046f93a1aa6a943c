-- The schedules that continue from a state: one event after another, and none if too many loose events are left.
use Rattle.std.proofs.Common.{◌≡◌, ℕ, zero, suc, ◌+◌, ◌-◌, ◌<◌, Bool, None, Some, List, [], ◌∷◌, length, drop, remove, slice_index_or, refl, ap, ap₂, sym, ◌∙◌, arith}
use Rattle.std.specs.Prelude.{slice_get}
use Rattle.std.proofs.lemmas.List.Edits.{length-remove}
use Rattle.posix.specs.declared.event.Event.{Event}
use Rattle.posix.specs.declared.event.Event.TheVariants.{Tick}
use Rattle.posix.specs.Common.{State}
use Rattle.schedules.specs.Families.{spot}
use Rattle.schedules.specs.Schedules.{event_of}
use Rattle.counting.specs.Tallies.{TallyView, both, no_schedules}
use Rattle.merging.specs.declared.search.Search.{Search}
use Rattle.merging.specs.Merging.{Outlook, Property, from_spot, if_none_left, list_of, loose_of, marks_after, outlook_of, over_kinds, state_after, tally_at_place, tally_from, tally_of_rest, texts_of}
use Rattle.merging.proofs.MergeLemmas.{tally_at_rest}

-- ---- one event after another

-- Either something is inserted before an event, and these schedules continue from there, or these continue after the
-- event.
abbrev pub spot_or_event : Outlook → Outlook → List (List ℕ) → List Event → Event → ℕ → Outlook
spot_or_event here later texts loose x p n left s marks =
    both
    (both
    (from_spot (spot (length loose) p 0) (here n left (state_after Tick s) (marks_after texts Tick s marks)))
    (over_kinds (λ kind others. from_spot (spot (length loose) p kind)
    (here n others (state_after (event_of loose kind) s) (marks_after texts (event_of loose kind) s marks))) (length left) left))
    (later (suc n) left (state_after x s) (marks_after texts x s marks))

from_event : (has : Property) (texts : List (List ℕ)) (loose : List Event) (places p : ℕ) (x : Event) (events : List Event) (left : List ℕ) (s : State) (marks : List Bool)
    → tally_from has texts loose (suc places) p (x ∷ events) zero left s marks ≡ tally_from has texts loose places (p + 1) events zero left (state_after x s) (marks_after texts x s marks)
unfolding tally_from tally_at_place
from_event has texts loose places p x events left s marks = refl

from_spot_or_event : (has : Property) (texts : List (List ℕ)) (loose : List Event) (places p : ℕ) (x : Event) (events : List Event) (n : ℕ) (left : List ℕ) (s : State) (marks : List Bool)
    → tally_from has texts loose (suc places) p (x ∷ events) (suc n) left s marks
    ≡ spot_or_event (tally_from has texts loose (suc places) p (x ∷ events)) (tally_from has texts loose places (p + 1) events) texts loose x p n left s marks
unfolding tally_from tally_at_place
from_spot_or_event has texts loose places p x events n left s marks = refl

next_of : (events : List Event) (place : ℕ) (x : Event) → slice_get events place ≡ Some x → drop place events ≡ x ∷ drop (place + 1) events
next_of [] place x is = absurd (let e : None ≡ Some x = is in cc)
next_of (e ∷ es) zero x is = let same : Some e ≡ Some x = is in let one : e ≡ x = cc in ap (λ y. y ∷ es) one
next_of (e ∷ es) (suc place) x is =
    let more : suc (place + 1) ≡ suc place + 1 = omega arith in
    next_of es place x is ∙ ap (λ n. x ∷ drop n (e ∷ es)) more

-- The event with this place is the first of those that are left.
outlook_before : (has : Property) (s : Search) (place : ℕ) (x : Event) → place < s.family.now.upto → slice_get (list_of s) place ≡ Some x
    → outlook_of has s place ≡ tally_from has (texts_of s) (loose_of s) (suc (s.family.now.upto - (place + 1))) place (x ∷ drop (place + 1) (list_of s))
outlook_before has s place x below is =
    let here : s.family.now.upto - place ≡ suc (s.family.now.upto - (place + 1)) = omega (arith, below) in
    ap₂ (λ places events. tally_from has (texts_of s) (loose_of s) places place events) here (next_of (list_of s) place x is)

-- If no more spot is allowed.
pub event_is_next : (has : Property) (s : Search) (place : ℕ) (x : Event) → place < s.family.now.upto → slice_get (list_of s) place ≡ Some x
    → (left : List ℕ) (st : State) (marks : List Bool)
    → outlook_of has s place zero left st marks ≡ outlook_of has s (place + 1) zero left (state_after x st) (marks_after (texts_of s) x st marks)
event_is_next has s place x below is left st marks =
    ap (λ (go_on : Outlook). go_on zero left st marks) (outlook_before has s place x below is)
    ∙ from_event has (texts_of s) (loose_of s) (s.family.now.upto - (place + 1)) place x (drop (place + 1) (list_of s)) left st marks

-- If one more spot is allowed.
pub spot_or_event_is_next : (has : Property) (s : Search) (place : ℕ) (x : Event) → place < s.family.now.upto → slice_get (list_of s) place ≡ Some x
    → (n : ℕ) (left : List ℕ) (st : State) (marks : List Bool)
    → outlook_of has s place (suc n) left st marks ≡ spot_or_event (outlook_of has s place) (outlook_of has s (place + 1)) (texts_of s) (loose_of s) x place n left st marks
spot_or_event_is_next has s place x below is n left st marks =
    let same = outlook_before has s place x below is in
    let later = outlook_of has s (place + 1) in
    ap (λ (go_on : Outlook). go_on (suc n) left st marks) same
    ∙ from_spot_or_event has (texts_of s) (loose_of s) (s.family.now.upto - (place + 1)) place x (drop (place + 1) (list_of s)) n left st marks
    ∙ ap (λ (go_on : Outlook). spot_or_event go_on later (texts_of s) (loose_of s) x place n left st marks) (sym same)

-- ---- no schedule continues

none_if_left : (left : List ℕ) (t : TallyView) → 0 < length left → if_none_left left t ≡ no_schedules
none_if_left [] t some = absurd (omega (arith, some))
none_if_left (kind ∷ left) t some = refl

each_none : (f : ℕ → List ℕ → TallyView) (i : ℕ) (left : List ℕ) → ((j : ℕ) → j < i → f (slice_index_or left j 0) (remove left j) ≡ no_schedules) → over_kinds f i left ≡ no_schedules
each_none f zero left none = refl
each_none f (suc i) left none = ap₂ both (each_none f i left (λ j l. none j (omega (arith, l)))) (none i (omega arith))

-- If more loose events are left than spots are allowed.
abbrev IsShut : Outlook → Type 0
IsShut go_on = (n : ℕ) (left : List ℕ) (s : State) (marks : List Bool) → n < length left → go_on n left s marks ≡ no_schedules

place_is_shut : (go_on : Outlook) → IsShut go_on → (texts : List (List ℕ)) (loose : List Event) (x : Event) (p : ℕ) → IsShut (tally_at_place go_on texts loose x p)
unfolding tally_at_place
place_is_shut go_on shut texts loose x p zero left s marks more = shut zero left (state_after x s) (marks_after texts x s marks) more
place_is_shut go_on shut texts loose x p (suc n) left s marks more =
    ap₂ both
    (ap₂ both
    (ap (from_spot (spot (length loose) p 0)) (place_is_shut go_on shut texts loose x p n left (state_after Tick s) (marks_after texts Tick s marks) (omega (arith, more))))
    (each_none (λ kind others. from_spot (spot (length loose) p kind)
    (tally_at_place go_on texts loose x p n others (state_after (event_of loose kind) s) (marks_after texts (event_of loose kind) s marks))) (length left) left
    (λ j l. let one_less = length-remove left j l in
    let kind = slice_index_or left j 0 in
    ap (from_spot (spot (length loose) p kind))
    (place_is_shut go_on shut texts loose x p n (remove left j) (state_after (event_of loose kind) s) (marks_after texts (event_of loose kind) s marks) (omega (arith, more, one_less))))))
    (shut (suc n) left (state_after x s) (marks_after texts x s marks) more)

pub none_goes_on : (has : Property) (texts : List (List ℕ)) (loose : List Event) (places p : ℕ) (events : List Event) (n : ℕ) (left : List ℕ) (s : State) (marks : List Bool) → n < length left
    → tally_from has texts loose places p events n left s marks ≡ no_schedules
unfolding tally_from
none_goes_on has texts loose zero p events n left s marks more = none_if_left left (tally_of_rest has texts events s marks) (omega (arith, more))
none_goes_on has texts loose (suc places) p [] n left s marks more = none_if_left left (tally_of_rest has texts [] s marks) (omega (arith, more))
none_goes_on has texts loose (suc places) p (x ∷ events) n left s marks more =
    place_is_shut (tally_from has texts loose places (p + 1) events) (none_goes_on has texts loose places (p + 1) events) texts loose x p n left s marks more

-- If one is left after the last event before which it can be inserted.
pub none_at_end : (has : Property) (s : Search) (n : ℕ) (left : List ℕ) (st : State) (marks : List Bool) → 0 < length left → outlook_of has s s.family.now.upto n left st marks ≡ no_schedules
none_at_end has s n left st marks some =
    let upto = s.family.now.upto in
    let end : upto - upto ≡ zero = omega arith in
    let rest = drop upto (list_of s) in
    ap (λ places. tally_from has (texts_of s) (loose_of s) places upto rest n left st marks) end
    ∙ tally_at_rest has (texts_of s) (loose_of s) upto rest n left st marks
    ∙ none_if_left left (tally_of_rest has (texts_of s) rest st marks) some
