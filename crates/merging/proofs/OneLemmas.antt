-- What continues from states that are one is the same: from two that differ only in time, and from two that have halted.
use Rattle.std.proofs.Common.{◌≡◌, inl, inr, ◌≤◌, ℕ, zero, suc, ◌+◌, ◌-◌, Bool, true, Option, Some, None, List, [], ◌∷◌, ◌++◌, cond, length, drop, remove, slice_index_or, refl, ap, ap₂, sym, subst, ◌∙◌}
use Rattle.posix.specs.declared.event.Event.{Event}
use Rattle.posix.specs.declared.event.Event.TheVariants.{Tick}
use Rattle.posix.specs.declared.entry.Entry.{Entry}
use Rattle.posix.specs.Common.{Line, Outcome, State, boot, current, next, numbered}
use Rattle.posix.proofs.CountLemmas.{next_halted}
use Rattle.schedules.specs.Families.{spot}
use Rattle.schedules.specs.Schedules.{event_of}
use Rattle.counting.specs.declared.ending.Ending.{Ending}
use Rattle.counting.specs.declared.ending.Ending.TheVariants.{Halted}
use Rattle.counting.specs.Courses.{course_from}
use Rattle.counting.specs.Endings.{ending_of, going_or_at_rest}
use Rattle.counting.specs.Tallies.{TallyView, both, no_schedules}
use Rattle.counting.specs.Texts.{marked}
use Rattle.times.specs.Times.{AreMoved, state_later}
use Rattle.times.proofs.MovedLemmas.{alarms_kept, moved_refl, moved_swapped, moved_then}
use Rattle.times.proofs.StepLemmas.{next_later}
use Rattle.merging.specs.declared.begun.Begun.{Begun}
use Rattle.merging.specs.declared.search.Search.{Search}
use Rattle.merging.specs.Merging.{AllBegun, AreAlike, AreBegun, AreOneState, Forgets, Outlook, Point, Property, behind, begun_tally, from_spot, if_none_left, list_of, loose_of, marks_after, most_of, one_if, outlook_of, slots_tally, state_after, tally_at_place, tally_from, tally_of_rest, texts_of, world_of}
use Rattle.merging.proofs.MergeLemmas.{over_kinds_same}

-- ---- states that are one

moved_halted : (s t : State) → AreMoved s t → s.halted ≡ t.halted
moved_halted s t (d, inl is) = sym (ap (λ (u : State). u.halted) is)
moved_halted s t (d, inr is) = ap (λ (u : State). u.halted) is

pub one_refl : (s : State) → AreOneState s s
one_refl s = inl (moved_refl s)

pub one_swapped : (s t : State) → AreOneState s t → AreOneState t s
one_swapped s t (inl moved) = inl (moved_swapped s t moved)
one_swapped s t (inr halted) = inr (halted.1, halted.0)

pub one_then : (s t u : State) → AreOneState s t → AreOneState t u → AreOneState s u
one_then s t u (inl a) (inl b) = inl (moved_then s t u a b)
one_then s t u (inl a) (inr b) = inr (moved_halted s t a ∙ b.0, b.1)
one_then s t u (inr a) (inl b) = inr (a.0, sym (moved_halted t u b) ∙ a.1)
one_then s t u (inr a) (inr b) = inr (a.0, b.1)

-- What neither a move nor a halted state changes.
same_of_one : {A : Type 0} (f : State → A) → ((d : ℕ) (s : State) → f (state_later d s) ≡ f s) → ((s t : State) → s.halted ≡ true → t.halted ≡ true → f s ≡ f t)
    → (s t : State) → AreOneState s t → f s ≡ f t
same_of_one f later halts s t (inl (d, inl is)) = sym (ap f is ∙ later d s)
same_of_one f later halts s t (inl (d, inr is)) = ap f is ∙ later d t
same_of_one f later halts s t (inr halted) = halts s t halted.0 halted.1

-- ---- an event

still_halted : (s : State) (x : Event) → s.halted ≡ true → (state_after x s).halted ≡ true
still_halted s x halted = ap (λ (o : Outcome). o.state.halted) (next_halted true s x halted) ∙ halted

after_later : (d : ℕ) (x : Event) (s : State) → state_after x (state_later d s) ≡ state_later d (state_after x s)
after_later d x s = ap (λ (o : Outcome). o.state) (next_later d true s x)

pub one_after : (x : Event) (s t : State) → AreOneState s t → AreOneState (state_after x s) (state_after x t)
one_after x s t (inl (d, inl is)) = inl (d, inl (ap (state_after x) is ∙ after_later d x s))
one_after x s t (inl (d, inr is)) = inl (d, inr (ap (state_after x) is ∙ after_later d x t))
one_after x s t (inr halted) = inr (still_halted s x halted.0, still_halted t x halted.1)

entries_same : (x : Event) (s t : State) → AreOneState s t → (next true s x).entries ≡ (next true t x).entries
entries_same x = same_of_one (λ s. (next true s x).entries) (λ d s. ap (λ (o : Outcome). o.entries) (next_later d true s x))
    (λ s t halted too. ap (λ (o : Outcome). o.entries) (next_halted true s x halted) ∙ sym (ap (λ (o : Outcome). o.entries) (next_halted true t x too)))

pub marks_same : (texts : List (List ℕ)) (x : Event) (s t : State) (marks : List Bool) → AreOneState s t → marks_after texts x s marks ≡ marks_after texts x t marks
marks_same texts x s t marks one = ap (λ (es : List Entry). marked texts (numbered 1 es) marks) (entries_same x s t one)

-- ---- how a run ends

ends_halted : (s : State) → s.halted ≡ true → ending_of s ≡ Halted
ends_halted s halted = rw halted refl

ending_later : (d : ℕ) (s : State) → ending_of (state_later d s) ≡ ending_of s
ending_later d s = ap (λ b. cond s.halted Halted (going_or_at_rest b (current s))) (alarms_kept d s)

ending_same : (s t : State) → AreOneState s t → ending_of s ≡ ending_of t
ending_same = same_of_one ending_of ending_later (λ s t halted too. ends_halted s halted ∙ sym (ends_halted t too))

last_one : (k : ℕ) (s t : State) (events : List Event) → AreOneState s t → AreOneState (course_from k s events).last (course_from k t events).last
last_one k s t [] one = one
last_one k s t (x ∷ events) one = last_one (k + 1) (state_after x s) (state_after x t) events (one_after x s t one)

lines_same : (k : ℕ) (s t : State) (events : List Event) → AreOneState s t → (course_from k s events).lines ≡ (course_from k t events).lines
lines_same k s t [] one = refl
lines_same k s t (x ∷ events) one =
    ap₂ (λ (es : List Entry) (ls : List Line). numbered k es ++ ls) (entries_same x s t one) (lines_same (k + 1) (state_after x s) (state_after x t) events (one_after x s t one))

-- ---- what continues from a state

-- The result is the same for states that are one.
abbrev IsSame : (State → List Bool → TallyView) → Type 0
IsSame f = (s t : State) (marks : List Bool) → AreOneState s t → f s marks ≡ f t marks

rest_same : (has : Property) (texts : List (List ℕ)) (events : List Event) → IsSame (tally_of_rest has texts events)
unfolding tally_of_rest
rest_same has texts events s t marks one =
    ap₂ (λ (e : Ending) (ls : List Line). one_if (has e (marked texts ls marks))) (ending_same _ _ (last_one 1 s t events one)) (lines_same 1 s t events one)

event_same : (texts : List (List ℕ)) (x : Event) (f : State → List Bool → TallyView) → IsSame f → IsSame (λ s marks. f (state_after x s) (marks_after texts x s marks))
event_same texts x f same s t marks one =
    ap (f (state_after x s)) (marks_same texts x s t marks one)
    ∙ same (state_after x s) (state_after x t) (marks_after texts x t marks) (one_after x s t one)

place_forgets : (go_on : Outlook) → Forgets go_on → (texts : List (List ℕ)) (loose : List Event) (x : Event) (p : ℕ) → Forgets (tally_at_place go_on texts loose x p)
unfolding tally_at_place
place_forgets go_on forgets texts loose x p zero left s t marks one = event_same texts x (go_on zero left) (forgets zero left) s t marks one
place_forgets go_on forgets texts loose x p (suc n) left s t marks one =
    let put = λ (y : Event) (q : ℕ) (others : List ℕ) (u : State). from_spot (spot (length loose) p q) (tally_at_place go_on texts loose x p n others (state_after y u) (marks_after texts y u marks)) in
    let same = λ (y : Event) (q : ℕ) (others : List ℕ). ap (from_spot (spot (length loose) p q))
    (event_same texts y (tally_at_place go_on texts loose x p n others) (place_forgets go_on forgets texts loose x p n others) s t marks one) in
    ap₂ both
    (ap₂ both (same Tick 0 left)
    (over_kinds_same (λ kind others. put (event_of loose kind) kind others s) (λ kind others. put (event_of loose kind) kind others t) (length left) left
    (λ k l. let kind = slice_index_or left k 0 in same (event_of loose kind) kind (remove left k))))
    (event_same texts x (go_on (suc n) left) (forgets (suc n) left) s t marks one)

from_forgets : (has : Property) (texts : List (List ℕ)) (loose : List Event) (places p : ℕ) (events : List Event) → Forgets (tally_from has texts loose places p events)
unfolding tally_from
from_forgets has texts loose zero p events n left s t marks one = ap (if_none_left left) (rest_same has texts events s t marks one)
from_forgets has texts loose (suc places) p [] n left s t marks one = ap (if_none_left left) (rest_same has texts [] s t marks one)
from_forgets has texts loose (suc places) p (x ∷ events) n left s t marks one =
    place_forgets (tally_from has texts loose places (p + 1) events) (from_forgets has texts loose places (p + 1) events) texts loose x p n left s t marks one

pub outlook_forgets : (has : Property) (s : Search) (place : ℕ) → Forgets (outlook_of has s place)
outlook_forgets has s place = from_forgets has (texts_of s) (loose_of s) (s.family.now.upto - place) place (drop place (list_of s))

-- ---- points that are alike

pub alike_refl : (p : Point) → AreAlike p p
alike_refl p = record { state = one_refl p.state; left = refl; marks = refl }

pub alike_swapped : (p q : Point) → AreAlike p q → AreAlike q p
alike_swapped p q a = record { state = one_swapped p.state q.state a.state; left = sym a.left; marks = sym a.marks }

pub alike_then : (p q r : Point) → AreAlike p q → AreAlike q r → AreAlike p r
alike_then p q r a b = record { state = one_then p.state q.state r.state a.state b.state; left = a.left ∙ b.left; marks = a.marks ∙ b.marks }

-- ---- beginnings that lead to points that are alike

pub begun_alike : (s : Search) (place : ℕ) (p q : Point) (b : Begun) → AreAlike p q → AreBegun s place p b → AreBegun s place q b
begun_alike s place p q b a begun = record {
  reached = one_then q.state p.state (course_from 1 (boot (world_of s)) b.given).last (one_swapped p.state q.state a.state) begun.reached;
  given = begun.given;
  few = subst (λ (left : List ℕ). length b.spots + length left ≤ most_of s) a.left begun.few;
  some = begun.some;
}

pub all_begun_alike : (s : Search) (place fewest : ℕ) (p q : Point) (bs : List (Option Begun)) → AreAlike p q → AllBegun s place fewest p bs → AllBegun s place fewest q bs
all_begun_alike s place fewest p q bs a all k b at = ((all k b at).0, begun_alike s place p q b a (all k b at).1)

pub begun_tally_alike : (go_on : Outlook) (most : ℕ) (p q : Point) (b : Begun) → Forgets go_on → AreAlike p q → begun_tally go_on most p b ≡ begun_tally go_on most q b
begun_tally_alike go_on most p q b forgets a =
    ap (behind b.count b.spots)
    (forgets (most - length b.spots) p.left p.state q.state p.marks a.state ∙ ap₂ (λ left marks. go_on (most - length b.spots) left q.state marks) a.left a.marks)

pub slots_alike : (go_on : Outlook) (most : ℕ) (p q : Point) (bs : List (Option Begun)) → Forgets go_on → AreAlike p q → slots_tally go_on most p bs ≡ slots_tally go_on most q bs
slots_alike go_on most p q [] forgets a = refl
slots_alike go_on most p q (None ∷ bs) forgets a = ap (both no_schedules) (slots_alike go_on most p q bs forgets a)
slots_alike go_on most p q (Some b ∷ bs) forgets a = ap₂ both (begun_tally_alike go_on most p q b forgets a) (slots_alike go_on most p q bs forgets a)
