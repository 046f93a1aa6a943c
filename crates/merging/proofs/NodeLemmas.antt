-- Kernels that run events, the marks of the texts that their lines have, and the points that they reach.
use Rattle.std.proofs.Common.{◌≡◌, ℕ, zero, suc, ◌+◌, ◌<◌, ◌≤◌, Bool, true, false, List, [], ◌∷◌, ◌++◌, length, map, Option, Some, None, refl, ap, ap₂, sym, subst, ◌∙◌, append-nil, arith}
use Rattle.std.specs.Prelude.{option_map, replicate}
use Rattle.std.proofs.lemmas.List.{length_push}
use Rattle.std.proofs.lemmas.Option.{same_Some, slice_get-map}
use Rattle.posix.specs.declared.event.Event.{Event}
use Rattle.posix.specs.Common.{Line, numbered, IsRegular, IsSettled, State, boot, next}
use Rattle.schedules.specs.Schedules.{event_of}
use Rattle.counting.specs.Courses.{Adds, Course, course_from}
use Rattle.counting.specs.Tallies.{both, no_schedules}
use Rattle.counting.specs.Texts.{marked}
use Rattle.counting.proofs.CourseLemmas.{granted_course}
use Rattle.merging.specs.declared.begun.Begun.{Begun}
use Rattle.merging.specs.declared.node.Node.{Node}
use Rattle.merging.specs.declared.search.Search.{Search}
use Rattle.merging.specs.Merging.{AllBegun, AreAlike, AreBegun, AreOneState, HasSome, IsPoint, Outlook, Point, begun_tally, kind_at, left_at, loose_of, marks_after, most_of, point, point_put, slots_tally, state_after, texts_of, world_of}
use Rattle.merging.specs.Slots.{given_slot}
use Rattle.merging.proofs.MergeLemmas.{entries_numbered, marked_by_entries}
use Rattle.merging.proofs.OneLemmas.{marks_same, one_after, one_swapped, one_then}
use Rattle.merging.proofs.WorldLemmas.{course_keeps_world, next_keeps_world}

-- ---- the result of running events

added_course : (k : ℕ) (old new : State) (events : List Event) (before after : List Line) → (a : Adds k old events new before after) → course_from k old events ≡ record { lines = a.lines; last = new }
added_course k old new events before after a = granted_course k old new events a.lines a.run a.holds.1

added_last : (k : ℕ) (old new : State) (events : List Event) (before after : List Line) → Adds k old events new before after → (course_from k old events).last ≡ new
added_last k old new events before after a = ap (λ (c : Course). c.last) (added_course k old new events before after a)

-- From the start of a world.
pub booted_last : (k : ℕ) (boot old new : State) (events : List Event) (before after : List Line) → k ≡ 1 → old ≡ boot → Adds k old events new before after → new ≡ (course_from 1 boot events).last
booted_last k boot old new events before after first same a =
    sym (added_last k old new events before after a) ∙ ap₂ (λ (n : ℕ) (s : State). (course_from n s events).last) first same

-- One more event.
pub last_then : (k : ℕ) (s : State) (events : List Event) (x : Event) → (course_from k s (events ++ x ∷ [])).last ≡ state_after x (course_from k s events).last
last_then k s [] x = refl
last_then k s (y ∷ events) x = last_then (k + 1) (next true s y).state events x

pub one_added : (k : ℕ) (old new : State) (x : Event) (before after : List Line) → Adds k old (x ∷ []) new before after → new ≡ state_after x old
one_added k old new x before after a = sym (added_last k old new (x ∷ []) before after a)

-- ---- marks

-- What one event shows, whatever its number.
pub one_marked : (k : ℕ) (old new : State) (x : Event) (before after : List Line) (texts : List (List ℕ)) (marks : List Bool) → before ≡ [] → Adds k old (x ∷ []) new before after
    → marked texts after marks ≡ marks_after texts x old marks
one_marked k old new x before after texts marks none a =
    let entries = (next true old x).entries in
    let shows : numbered k entries ++ [] ≡ a.lines = ap (λ (c : Course). c.lines) (added_course k old new (x ∷ []) before after a) in
    let lines : after ≡ numbered k entries = a.holds.0 ∙ ap (λ (ls : List Line). ls ++ a.lines) none ∙ sym shows ∙ append-nil (numbered k entries) in
    ap (λ (ls : List Line). marked texts ls marks) lines
    ∙ marked_by_entries texts (numbered k entries) (numbered 1 entries) marks (entries_numbered k entries ∙ sym (entries_numbered 1 entries))

pub marked_length : (texts : List (List ℕ)) (lines : List Line) (marks : List Bool) → length marks ≡ length texts → length (marked texts lines marks) ≡ length texts
marked_length [] lines marks l = l
marked_length (t ∷ texts) lines [] l = absurd (omega (arith, l))
marked_length (t ∷ texts) lines (m ∷ marks) l = ap suc (marked_length texts lines marks (omega (arith, l)))

pub none_marked : {X : Type 0} (f : X → List ℕ) (xs : List X) → replicate (length xs) false ≡ map (λ (t : List ℕ). false) (map f xs)
none_marked f [] = refl
none_marked f (x ∷ xs) = ap (λ bs. false ∷ bs) (none_marked f xs)

-- ---- an event is inserted

-- The machine has run the events of beginnings of an earlier point, and then the inserted event.
pub after_point : (s : Search) (place which : ℕ) (p : Point) (b : Begun) (n : Node) → place < s.family.now.upto → IsPoint s place p → AreBegun s place p b
    → let x = event_of (loose_of s) (kind_at which p.left) in
    let was = (course_from 1 (boot (world_of s)) b.given).last in
    n.kernel.state ≡ state_after x was → n.left.items ≡ left_at which p.left → n.marks.items ≡ marks_after (texts_of s) x was p.marks → IsRegular n.kernel.state → IsSettled n.kernel.state
    → IsPoint s place (point n) × AreAlike (point_put s which p) (point n)
after_point s place which p b n before at begun state left marks regular settled =
    let x = event_of (loose_of s) (kind_at which p.left) in
    let start = boot (world_of s) in
    let was = (course_from 1 start b.given).last in (
      record {
        world = ap (λ (t : State). t.world) state ∙ next_keeps_world true was x ∙ course_keeps_world 1 start b.given;
        regular = regular;
        settled = settled;
        marks = ap length marks ∙ marked_length (texts_of s) (numbered 1 (next true was x).entries) p.marks at.marks;
        last = λ end. absurd (omega (arith, before, end));
      },
      record {
        state = subst (AreOneState (state_after x p.state)) (sym state) (one_after x p.state was begun.reached);
        left = sym left;
        marks = marks_same (texts_of s) x p.state was p.marks begun.reached ∙ sym marks;
      },
    )

-- Beginnings with the inserted event lead to a point that is alike.
pub with_begun : (s : Search) (place which spot : ℕ) (p q : Point) (b c : Begun) → AreBegun s place p b → AreAlike (point_put s which p) q → length b.spots + 1 + length (left_at which p.left) ≤ most_of s
    → c.count ≡ b.count → c.spots ≡ b.spots ++ spot ∷ [] → c.given ≡ b.given ++ event_of (loose_of s) (kind_at which p.left) ∷ [] → AreBegun s place q c
with_begun s place which spot p q b c begun alike few count spots given =
    let x = event_of (loose_of s) (kind_at which p.left) in
    let start = boot (world_of s) in
    let was = (course_from 1 start b.given).last in
    let more = ap length spots ∙ length_push b.spots spot in
    let long = begun.given in
    let some = begun.some in
    record {
      reached =
          subst (AreOneState q.state) (sym (ap (λ xs. (course_from 1 start xs).last) given ∙ last_then 1 start b.given x))
          (one_then q.state (state_after x p.state) (state_after x was) (one_swapped (state_after x p.state) q.state alike.state) (one_after x p.state was begun.reached));
      given = omega (arith, ap length given, length_push b.given x, long, more);
      few = omega (arith, more, few, ap length alike.left);
      some = omega (arith, some, count);
    }

-- ---- the event of the list

pub given_point : (s : Search) (place : ℕ) (x : Event) (p : Point) (n : Node) → IsPoint s place p → (place + 1 ≡ s.family.now.upto → p.left ≡ [])
    → n.kernel.state ≡ state_after x p.state → n.left.items ≡ p.left → n.marks.items ≡ marks_after (texts_of s) x p.state p.marks → IsRegular n.kernel.state → IsSettled n.kernel.state → IsPoint s (place + 1) (point n)
given_point s place x p n at none state left marks regular settled = record {
  world = ap (λ (t : State). t.world) state ∙ next_keeps_world true p.state x ∙ at.world;
  regular = regular;
  settled = settled;
  marks = ap length marks ∙ marked_length (texts_of s) (numbered 1 (next true p.state x).entries) p.marks at.marks;
  last = λ end. left ∙ none end;
}

given_one : (s : Search) (place : ℕ) (x : Event) (p q : Point) (b : Begun) → q.state ≡ state_after x p.state → q.left ≡ p.left → AreBegun s place p b → AreBegun s (place + 1) q (record b { given = b.given ++ x ∷ [] })
given_one s place x p q b state left begun =
    let start = boot (world_of s) in
    let was = (course_from 1 start b.given).last in
    let long = begun.given in
    let few = begun.few in
    record {
      reached = subst (λ (t : State). AreOneState t (course_from 1 start (b.given ++ x ∷ [])).last) (sym state)
          (subst (AreOneState (state_after x p.state)) (sym (last_then 1 start b.given x)) (one_after x p.state was begun.reached));
      given = omega (arith, length_push b.given x, long);
      few = omega (arith, few, ap length left);
      some = begun.some;
    }

pub given_begun : (s : Search) (place fewest : ℕ) (x : Event) (p q : Point) (bs : List (Option Begun)) → q.state ≡ state_after x p.state → q.left ≡ p.left
    → AllBegun s place fewest p bs → AllBegun s (place + 1) fewest q (map (given_slot x) bs)
given_begun s place fewest x p q [] state left all k b e = cc
given_begun s place fewest x p q (None ∷ bs) state left all zero b e = cc
given_begun s place fewest x p q (Some c ∷ bs) state left all zero b e =
    let was = all 0 c refl in
    subst (λ (d : Begun). (fewest ≤ length d.spots) × AreBegun s (place + 1) q d) (same_Some (record c { given = c.given ++ x ∷ [] }) b (same_Some _ _ e))
    (was.0, given_one s place x p q c state left was.1)
given_begun s place fewest x p q (c ∷ bs) state left all (suc k) b e = given_begun s place fewest x p q bs state left (λ j. all (suc j)) k b e

pub given_some : (x : Event) (bs : List (Option Begun)) → HasSome bs → HasSome (map (given_slot x) bs)
given_some x bs (k, b, e) = (k, record b { given = b.given ++ x ∷ [] }, slice_get-map (given_slot x) bs k ∙ ap (option_map (given_slot x)) e)

pub given_tally : (go_on : Outlook) (most : ℕ) (q : Point) (x : Event) (bs : List (Option Begun)) → slots_tally go_on most q (map (given_slot x) bs) ≡ slots_tally go_on most q bs
given_tally go_on most q x [] = refl
given_tally go_on most q x (None ∷ bs) = ap (both no_schedules) (given_tally go_on most q x bs)
given_tally go_on most q x (Some b ∷ bs) = ap (both (begun_tally go_on most q b)) (given_tally go_on most q x bs)
