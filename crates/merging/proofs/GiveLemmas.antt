-- The event of the list runs from nodes all of whose beginnings have passed.
use Rattle.std.proofs.Common.{◌≡◌, ℕ, ◌+◌, ◌<◌, ◌≤◌, inl, inr, ◌⊎◌, List, [], ◌∷◌, ◌++◌, length, map, Option, Some, refl, ap, sym, subst, ◌∙◌, arith}
use Rattle.std.specs.Prelude.{slice_get}
use Rattle.posix.specs.declared.event.Event.{Event}
use Rattle.posix.specs.Common.{IsRegular, IsSettled}
use Rattle.counting.specs.Tallies.{TallyView, both}
use Rattle.merging.specs.declared.begun.Begun.{Begun}
use Rattle.merging.specs.declared.node.Node.{Node}
use Rattle.merging.specs.declared.search.Search.{Search}
use Rattle.merging.specs.Merging.{AllBegun, AllStand, HasSome, IsPoint, Point, Property, StandsAt, from_spots, list_of, marks_after, most_of, nodes_tally, outlook_of, past_of, point, point_after, seen, slots_tally, state_after, texts_of}
use Rattle.merging.specs.Slots.{AreShort, given_slot}
use Rattle.merging.proofs.IndexLemmas.{last_there, still_there}
use Rattle.merging.proofs.LayerLemmas.{tallies_more}
use Rattle.merging.proofs.NodeLemmas.{given_begun, given_point, given_some, given_tally}
use Rattle.merging.proofs.SpreadLemmas.{no_begun, none_past, past_is}
use Rattle.merging.proofs.TallyLemmas.{and_none, both_regrouped, both_swapped, none_and}

-- ---- a node all of whose beginnings have passed

abbrev HasPassed : Search → ℕ → List Point → Node → Type 0
HasPassed s place points n = StandsAt s place (from_spots (most_of s + 1) 0) points (seen n)

-- Its schedules are those of the beginnings that have passed.
passed_tally : (has : Property) (s : Search) (place : ℕ) (points : List Point) (n : Node) → HasPassed s place points n
    → nodes_tally has s place (n ∷ []) ≡ slots_tally (past_of has s place) (most_of s) (point n) n.passed
passed_tally has s place points n is =
    let passed = slots_tally (past_of has s place) (most_of s) (point n) n.passed in
    let begun = slots_tally (outlook_of has s place) (most_of s) (point n) n.begun in
    and_none (both begun passed) ∙ ap (λ t. both t passed) (no_begun (outlook_of has s place) s place (most_of s) (point n) n.begun is.begun) ∙ none_and passed

some_passed : (s : Search) (place : ℕ) (points : List Point) (n : Node) → HasPassed s place points n → HasSome n.passed
some_passed s place points n is = by (is.some refl)
  where
    by : HasSome n.begun ⊎ HasSome n.passed → HasSome n.passed
    by (inl (k, b, at)) =
        let it = is.begun k b at in
        let many = it.0 in
        let few = it.1.few in
        absurd (omega (arith, many, few))
    by (inr some) = some

-- One more event can run after its beginnings.
pub passed_short : (s : Search) (place : ℕ) (points : List Point) (n : Node) → place < s.family.now.upto → HasPassed s place points n → AreShort n.passed
passed_short s place points n before is k b at =
    let it = is.passed k b at in
    let given = it.1.given in
    let few = it.1.few in
    let f = s.family.now in
    omega (arith, given, few, before, f.within, f.short)

-- It has no schedules if a loose event is left after the last event before which it can be inserted.
pub late_tally : (has : Property) (s : Search) (place : ℕ) (points : List Point) (n : Node) (old : TallyView) → HasPassed s place points n → place + 1 ≡ s.family.now.upto → 0 < length n.left.items
    → old ≡ both old (nodes_tally has s place (n ∷ []))
late_tally has s place points n old is end some =
    sym (ap (both old) (passed_tally has s place points n is ∙ none_past has s place (point n) n.passed end some) ∙ and_none old)

-- ---- the node after the event

-- A node, and beginnings that lead to it after the event with this place, with the schedules of the node before.
pub record HasGiven (s : Search) (place : ℕ) (old new : Node) (bs : List (Option Begun)) : Type 0 where
  pub at : IsPoint s (place + 1) (point new)
  pub events : new.kernel.events ≤ place + 1 + most_of s
  pub begun : AllBegun s (place + 1) 0 (point new) bs
  pub some : HasSome bs
  pub tally : (has : Property) → slots_tally (outlook_of has s (place + 1)) (most_of s) (point new) bs ≡ nodes_tally has s place (old ∷ [])

-- The event runs, and then the beginnings are taken from the node.
pub has_given : (s : Search) (place : ℕ) (x : Event) (points : List Point) (old mid new : Node) (bs : List (Option Begun)) → slice_get (list_of s) place ≡ Some x → HasPassed s place points old
    → (place + 1 ≡ s.family.now.upto → old.left.items ≡ []) → mid.kernel.state ≡ state_after x old.kernel.state → mid.left.items ≡ old.left.items
    → mid.marks.items ≡ marks_after (texts_of s) x old.kernel.state old.marks.items → IsRegular mid.kernel.state → IsSettled mid.kernel.state → mid.kernel.events ≡ old.kernel.events + 1
    → point new ≡ point mid → new.kernel.events ≡ mid.kernel.events → bs ≡ map (given_slot x) old.passed → HasGiven s place old new bs
has_given s place x points old mid new bs at is in_time state left marks regular settled one same still given =
    let p = point old in
    let q = point new in
    let events = is.events in
    let now = ap (λ (r : Point). r.state) same ∙ state in
    let others = ap (λ (r : Point). r.left) same ∙ left in
    let after : q ≡ point_after s x p.left p = same ∙ cc in
    record {
      at = subst (IsPoint s (place + 1)) (sym same) (given_point s place x p mid is.point in_time state left marks regular settled);
      events = omega (arith, events, one, still);
      begun = subst (AllBegun s (place + 1) 0 q) (sym given) (given_begun s place 0 x p q old.passed now others is.passed);
      some = subst HasSome (sym given) (given_some x old.passed (some_passed s place points old is));
      tally = λ has.
          ap (slots_tally (outlook_of has s (place + 1)) (most_of s) q) given
          ∙ given_tally (outlook_of has s (place + 1)) (most_of s) q x old.passed
          ∙ sym (past_is has s place x p q old.passed at after)
          ∙ sym (passed_tally has s place points old is);
    }

-- ---- all nodes, the last one first

-- The last one and the others.
pub popped_stand : (s : Search) (place : ℕ) (points : List Point) (all rest : List Node) (n : Node) → all ≡ rest ++ n ∷ [] → AllStand s place (from_spots (most_of s + 1)) points all
    → AllStand s place (from_spots (most_of s + 1)) points rest × HasPassed s place points n
popped_stand s place points all rest n is stand =
    let each = subst (AllStand s place (from_spots (most_of s + 1)) points) is stand in
    (λ i m at. each i m (still_there rest (n ∷ []) i m at), each (length rest) n (last_there rest n))

-- The schedules of the last node are those of a later node now.
pub popped_tallies : (has : Property) (s : Search) (place : ℕ) (all rest : List Node) (n : Node) (old new : TallyView) → all ≡ rest ++ n ∷ [] → new ≡ both old (nodes_tally has s place (n ∷ []))
    → both new (nodes_tally has s place rest) ≡ both old (nodes_tally has s place all)
popped_tallies has s place all rest n old new is more =
    let others = nodes_tally has s place rest in
    let one = nodes_tally has s place (n ∷ []) in
    ap (λ t. both t others) more
    ∙ both_regrouped old one others
    ∙ ap (both old) (both_swapped one others ∙ ap (both others) (and_none _) ∙ sym (tallies_more rest n (outlook_of has s place) (past_of has s place) (most_of s)) ∙ sym (ap (nodes_tally has s place) is))
