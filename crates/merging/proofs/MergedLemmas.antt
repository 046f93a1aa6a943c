-- From the start of a world to the book of a family.
use Rattle.std.proofs.Common.{◌≡◌, ◌-◌, false, List, [], length, drop, refl, ap, ap₂, sym, subst, ◌∙◌, arith}
use Rattle.std.proofs.lemmas.List.{length-map}
use Rattle.posix.specs.declared.event.Event.{Event}
use Rattle.posix.specs.Common.{IsRegular, IsSettled, State, boot}
use Rattle.schedules.specs.Families.{family, kinds_of}
use Rattle.schedules.proofs.SizeLemmas.{length_kinds_of}
use Rattle.counting.specs.Books.{empty_book}
use Rattle.counting.specs.Counts.{book_over}
use Rattle.counting.specs.Courses.{course_from}
use Rattle.counting.specs.Texts.{unmarked}
use Rattle.merging.specs.declared.begun.Begun.{Begun}
use Rattle.merging.specs.declared.node.Node.{Node}
use Rattle.merging.specs.declared.search.Search.{Search}
use Rattle.merging.specs.Merging.{AreBegun, AreNodes, AreOneState, IsPoint, NonePassed, Outlook, Point, Property, behind, counted_all, from_start, goes_on_tally, list_of, loose_of, most_of, nodes_tally, outlook_of, past_of, tally_from, tally_of_nodes, texts_of, world_of}
use Rattle.merging.proofs.NodeBookLemmas.{counted_book}
use Rattle.merging.proofs.OneLemmas.{one_refl}
use Rattle.merging.proofs.TallyLemmas.{behind_nothing}

-- ---- the first node

-- All schedules begin before the first event.
pub first_point : (s : Search) (p : Point) → p.state ≡ boot (world_of s) → IsRegular p.state → IsSettled p.state → p.left ≡ kinds_of (length (loose_of s)) → p.marks ≡ unmarked (texts_of s) → IsPoint s 0 p
first_point s p state regular settled left marks = record {
  world = ap (λ (t : State). t.world) state;
  regular = regular;
  settled = settled;
  marks = ap length marks ∙ length-map (texts_of s) (λ t. false);
  last = λ end. left ∙ ap (λ xs. kinds_of (length xs)) (s.family.now.placed (sym end));
}

pub first_begun : (s : Search) (p : Point) (b : Begun) → p.state ≡ boot (world_of s) → p.left ≡ kinds_of (length (loose_of s)) → b.count ≡ 1 → b.spots ≡ [] → b.given ≡ [] → AreBegun s 0 p b
first_begun s p b state left one spots given =
    let none = ap length spots in
    let kinds : length p.left ≡ length (loose_of s) = ap length left ∙ length_kinds_of (length (loose_of s)) in
    record {
      reached = subst (AreOneState p.state) (state ∙ sym (ap (λ xs. (course_from 1 (boot (world_of s)) xs).last) given)) (one_refl p.state);
      given = omega (arith, ap length given, none);
      few = omega (arith, none, kinds);
      some = omega (arith, one);
    }

-- All schedules continue from there.
pub first_tally : (has : Property) (s : Search) (p : Point) (b : Begun) → p.state ≡ boot (world_of s) → p.left ≡ kinds_of (length (loose_of s)) → p.marks ≡ unmarked (texts_of s) → b.count ≡ 1 → b.spots ≡ []
    → goes_on_tally has s 0 p b ≡ from_start has s
first_tally has s p b state left marks one spots =
    let go_on = outlook_of has s 0 in
    let most = most_of s in
    let all : most - 0 ≡ most = omega arith in
    ap₂ (λ c q. behind c q (go_on (most - length q) p.left p.state p.marks)) one spots
    ∙ behind_nothing (go_on (most - 0) p.left p.state p.marks)
    ∙ ap₂ (λ k kinds. go_on k kinds p.state p.marks) all left
    ∙ ap₂ (go_on most (kinds_of (length (loose_of s)))) state marks

-- ---- before the first event, and after the last one that can have insertions

outlook_first : (has : Property) (s : Search) → outlook_of has s 0 ≡ tally_from has (texts_of s) (loose_of s) s.family.now.upto 0 (list_of s)
outlook_first has s =
    let all : s.family.now.upto - 0 ≡ s.family.now.upto = omega arith in
    ap (λ places. tally_from has (texts_of s) (loose_of s) places 0 (list_of s)) all

outlook_last : (has : Property) (s : Search) (rest : List Event) → rest ≡ drop s.family.now.upto (list_of s)
    → outlook_of has s s.family.now.upto ≡ tally_from has (texts_of s) (loose_of s) 0 s.family.now.upto rest
outlook_last has s rest is =
    let none : s.family.now.upto - s.family.now.upto ≡ 0 = omega arith in
    ap₂ (λ places events. tally_from has (texts_of s) (loose_of s) places s.family.now.upto events) none (sym is)

-- ---- the book of the last nodes is that of the family

pub merged_book : (s : Search) (rest : List Event) (nodes : List Node) → rest ≡ drop s.family.now.upto (list_of s) → AreNodes s s.family.now.upto 0 nodes → NonePassed nodes
    → ((has : Property) → nodes_tally has s s.family.now.upto nodes ≡ from_start has s)
    → counted_all (texts_of s) rest nodes (empty_book (texts_of s))
    ≡ book_over (world_of s) (loose_of s) (list_of s) (texts_of s) (family s.family.now.upto s.family.now.ticks (length (loose_of s)))
merged_book s rest nodes is stand passed same =
    let f = s.family.now in
    counted_book (texts_of s) (world_of s) (loose_of s) (list_of s) rest f.upto f.ticks (λ has. past_of has s f.upto) nodes f.within
    (λ i n at. record { left = (stand i n at).point.last refl; passed = passed i n at })
    (λ has. ap (λ (go_on : Outlook). tally_of_nodes go_on (past_of has s f.upto) (most_of s) nodes) (sym (outlook_last has s rest is))
    ∙ same has
    ∙ ap (λ (go_on : Outlook). go_on (most_of s) (kinds_of (length (loose_of s))) (boot (world_of s)) (unmarked (texts_of s))) (outlook_first has s))
