-- Insertions from a node, whose beginnings become beginnings of other nodes.
use Rattle.std.proofs.Common.{◌≡◌, ℕ, suc, ◌+◌, ◌<◌, ◌≤◌, ◌==◌, Bool, true, false, cond, List, [], ◌∷◌, ◌++◌, length, length-append, map, remove, Some, Option, refl, ap, ap₂, sym, subst, ◌∙◌, arith, get_or, slice_get, slice_set}
use Rattle.std.proofs.lemmas.Bool.{eqb-true}
use Rattle.std.proofs.lemmas.Option.{slice_get_within}
use Rattle.std.proofs.lemmas.List.{length-map}
use Rattle.std.proofs.lemmas.List.Edits.{length-remove}
use Rattle.posix.specs.declared.event.Event.{Event}
use Rattle.posix.specs.Common.{IsRegular, IsSettled, boot}
use Rattle.schedules.specs.Families.{spot}
use Rattle.counting.specs.Courses.{course_from}
use Rattle.counting.specs.Tallies.{TallyView, both, no_schedules}
use Rattle.merging.specs.declared.begun.Begun.{Begun}
use Rattle.merging.specs.declared.node.Node.{Node}
use Rattle.merging.specs.declared.search.Search.{Search}
use Rattle.merging.specs.Merging.{AllBegun, AllStand, AreAlike, AreBegun, Bound, CanGoOn, HasPut, HasSome, IsPoint, LeadsTo, Point, Property, SeenNode, StandsAt, edge_at, event_put, goes_on_tally, kind_at, left_at, loose_of, marks_after, most_of, nodes_tally, outlook_of, past_of, point, point_put, put_tally, seen, slots_tally, state_after, tally_of_node, texts_of, unless_at, world_of}
use Rattle.merging.proofs.IndexLemmas.{map_from, map_put, read_there, same_there, still_there}
use Rattle.merging.proofs.LayerLemmas.{at_most, filled_stand, stand_put, tallies_put}
use Rattle.merging.proofs.NodeLemmas.{after_point}
use Rattle.merging.proofs.OneLemmas.{begun_tally_alike, outlook_forgets}
use Rattle.merging.proofs.SpreadLemmas.{put_is}
use Rattle.merging.proofs.TallyLemmas.{and_none, both_regrouped}

-- ---- the node with an index

-- The node that is read there, and its point.
pub there_of : (ns : List Node) (i : ℕ) (p : Point) (n : Node) → slice_get (map point ns) i ≡ Some p → n ≡ get_or ns i n → (slice_get ns i ≡ Some n) × (point n ≡ p)
there_of ns i p n at is =
    let from = map_from point ns i p at in
    let there = read_there ns i from.0 n from.1 is in
    (there, ap point (sym (same_there ns i from.0 n from.1 there)) ∙ from.2)

pub node_within : (ns : List Node) (i : ℕ) (p : Point) → slice_get (map point ns) i ≡ Some p → i < length ns
node_within ns i p at = let from = map_from point ns i p at in slice_get_within ns i from.0 from.1

-- Its edges lead from the point.
pub led : (s : Search) (place : ℕ) (bounds : ℕ → Bound) (ns : List Node) (i : ℕ) (p : Point) (b : Begun) (n : Node) (which to : ℕ) → CanGoOn s place bounds ns i p b → n ≡ get_or ns i n → edge_at n.edges.items which ≡ Some to
    → LeadsTo s (map point ns) p which to
led s place bounds ns i p b n which to can is e =
    let there = there_of ns i p n can.at is in
    subst (λ q. LeadsTo s (map point ns) q which to) there.1 ((can.stand i n there.0).leads which to e)

-- The beginnings can still go on, with more nodes or with the same. The node with index `to` need not have beginnings.
pub still_can : (s : Search) (place : ℕ) (bounds : ℕ → Bound) (ns ms : List Node) (i to : ℕ) (p : Point) (b : Begun) → CanGoOn s place bounds ns i p b → (more : List Point) × (map point ms ≡ map point ns ++ more)
    → AllStand s place (unless_at to bounds) (map point ms) ms → CanGoOn s place (unless_at to bounds) ms i p b
still_can s place bounds ns ms i to p b can grown all = record {
  before = can.before;
  at = ap (λ ps. slice_get ps i) grown.1 ∙ still_there (map point ns) grown.0 i p can.at;
  begun = can.begun;
  stand = all;
  fewest = at_most to (length b.spots + 1) (record { fewest = (bounds to).fewest; some = false }) bounds (can.fewest to) can.fewest;
}

pub grown_length : (ns ms : List Node) → (more : List Point) × (map point ms ≡ map point ns ++ more) → length ns ≤ length ms
grown_length ns ms grown = omega (arith, length-map ms point, length-map ns point, ap length grown.1, length-append (map point ns) grown.0)

-- ---- a node is noted to lead to another one

-- Only its edges changed.
abbrev pub HasEdges : SeenNode → SeenNode → List (Option ℕ) → Type 0
HasEdges old new edges = new ≡ record old { edges = edges }

pub edge_stands : (s : Search) (place : ℕ) (bound : Bound) (points : List Point) (n new : SeenNode) (edges : List (Option ℕ)) (which to : ℕ) → HasEdges n new edges
    → ((w : ℕ) → edge_at edges w ≡ cond (w == which) (Some to) (edge_at n.edges w)) → LeadsTo s points n.point which to → StandsAt s place bound points n → StandsAt s place bound points new
edge_stands s place bound points n new edges which to is now leads was = subst (StandsAt s place bound points) (sym is) (record {
  point = was.point;
  events = was.events;
  begun = was.begun;
  passed = was.passed;
  some = was.some;
  leads = λ w j e. by w j (w == which) refl (sym (now w) ∙ e);
})
  where
    by : (w j : ℕ) (b : Bool) → (w == which) ≡ b → cond b (Some to) (edge_at n.edges w) ≡ Some j → LeadsTo s points n.point w j
    by w j true same e =
        let at : to ≡ j = cc in
        subst (λ k. LeadsTo s points n.point k j) (sym (eqb-true w which same)) (subst (LeadsTo s points n.point which) at leads)
    by w j false other e = was.leads w j e

pub edge_put : (s : Search) (place : ℕ) (bounds : ℕ → Bound) (ns : List Node) (i : ℕ) (p : Point) (b : Begun) (n new : Node) (which to : ℕ) → CanGoOn s place bounds ns i p b → n ≡ get_or ns i n
    → HasEdges (seen n) (seen new) new.edges.items → ((w : ℕ) → edge_at new.edges.items w ≡ cond (w == which) (Some to) (edge_at n.edges.items w)) → LeadsTo s (map point ns) p which to
    → CanGoOn s place bounds (slice_set ns i new) i p b × LeadsTo s (map point (slice_set ns i new)) p which to
edge_put s place bounds ns i p b n new which to can is edges now leads =
    let there = there_of ns i p n can.at is in
    let same = ap (λ (v : SeenNode). v.point) edges in
    let points = sym (map_put point ns i n new there.0 same) in (
      record {
        before = can.before;
        at = subst (λ ps. slice_get ps i ≡ Some p) points can.at;
        begun = can.begun;
        stand =
            stand_put s place bounds bounds ns i n new there.0 same (λ j apart. refl) can.stand
            (edge_stands s place (bounds i) (map point ns) (seen n) (seen new) new.edges.items which to edges now (subst (λ q. LeadsTo s (map point ns) q which to) (sym there.1) leads) (can.stand i n there.0));
        fewest = can.fewest;
      },
      subst (λ ps. LeadsTo s ps p which to) points leads,
    )

pub edge_tallies : (has : Property) (s : Search) (place : ℕ) (ns : List Node) (i : ℕ) (p : Point) (n new : Node) → slice_get (map point ns) i ≡ Some p → n ≡ get_or ns i n → HasEdges (seen n) (seen new) new.edges.items
    → nodes_tally has s place (slice_set ns i new) ≡ nodes_tally has s place ns
edge_tallies has s place ns i p n new at is edges =
    let go_on = outlook_of has s place in
    let past = past_of has s place in
    let most = most_of s in
    let there = there_of ns i p n at is in
    tallies_put ns i n new go_on past most no_schedules there.0
    (ap (λ (v : SeenNode). both (slots_tally go_on most v.point v.begun) (slots_tally past most v.point v.passed)) edges ∙ sym (and_none (tally_of_node go_on past most n)))
    ∙ and_none (nodes_tally has s place ns)

-- ---- a node that is not known

pub put_point : (s : Search) (place : ℕ) (bounds : ℕ → Bound) (ns : List Node) (i which : ℕ) (p : Point) (b : Begun) (n node : Node) (x : Event) → CanGoOn s place bounds ns i p b → n ≡ get_or ns i n → x ≡ event_put s which p
    → (let was = (course_from 1 (boot (world_of s)) b.given).last in
    node.kernel.state ≡ state_after x was → node.left.items ≡ left_at which n.left.items → node.marks.items ≡ marks_after (texts_of s) x was n.marks.items → IsRegular node.kernel.state → IsSettled node.kernel.state
    → IsPoint s place (point node) × AreAlike (point_put s which p) (point node))
put_point s place bounds ns i which p b n node x can is event state left marks regular settled =
    let there = there_of ns i p n can.at is in
    let was = (course_from 1 (boot (world_of s)) b.given).last in
    let stands = can.stand i n there.0 in
    after_point s place which p b node can.before (subst (IsPoint s place) there.1 stands.point) can.begun
    (state ∙ ap (λ y. state_after y was) event)
    (left ∙ ap (λ (q : Point). left_at which q.left) there.1)
    (marks ∙ ap₂ (λ y (q : Point). marks_after (texts_of s) y was q.marks) event there.1)
    regular settled

-- ---- the node gets the beginnings

-- The node that an insertion leads to is read.
pub led_there : (s : Search) (ns : List Node) (p : Point) (which to : ℕ) (m : Node) → LeadsTo s (map point ns) p which to → m ≡ get_or ns to m → (slice_get ns to ≡ Some m) × AreAlike (point_put s which p) (point m)
led_there s ns p which to m leads is =
    let there = there_of ns to leads.0 m leads.1 is in
    (there.0, subst (AreAlike (point_put s which p)) (sym there.1) leads.2)

-- What the beginnings become at a point that is alike.
pub put_tally_at : (has : Property) (s : Search) (place which q : ℕ) (p to : Point) (b c : Begun) → AreAlike (point_put s which p) to → q ≡ spot (length (loose_of s)) place (kind_at which p.left) → c.count ≡ b.count
    → c.spots ≡ b.spots ++ q ∷ [] → goes_on_tally has s place to c ≡ put_tally has s place p b which
put_tally_at has s place which q p to b c alike at count spots =
    sym (begun_tally_alike (outlook_of has s place) (most_of s) (point_put s which p) to c (outlook_forgets has s place) alike) ∙ put_is has s place which q p b c at count spots

-- The node that the insertion leads to has beginnings now, so its bound holds again.
pub put_can : (s : Search) (place : ℕ) (bounds : ℕ → Bound) (ns : List Node) (i to : ℕ) (p : Point) (b : Begun) (m new : Node) → CanGoOn s place (unless_at to bounds) ns i p b → ((j : ℕ) → (bounds j).fewest ≤ length b.spots + 1)
    → slice_get ns to ≡ Some m → point new ≡ point m → new.kernel.events ≡ m.kernel.events → new.passed ≡ m.passed → new.edges.items ≡ m.edges.items
    → (AllBegun s place (bounds to).fewest (point m) m.begun → AllBegun s place (bounds to).fewest (point m) new.begun) → HasSome new.begun → CanGoOn s place bounds (slice_set ns to new) i p b
put_can s place bounds ns i to p b m new can fewest there same events passed edges added has = record {
  before = can.before;
  at = subst (λ ps. slice_get ps i ≡ Some p) (sym (map_put point ns to m new there same)) can.at;
  begun = can.begun;
  stand = filled_stand s place bounds ns to m new there same events passed edges added has can.stand;
  fewest = fewest;
}

-- ---- several insertions

pub put_nothing : (s : Search) (place i : ℕ) (b : Begun) (ns : List Node) → HasPut s place i b (λ has p. no_schedules) ns ns
put_nothing s place i b ns = record { stand = λ bounds p can. can; tally = λ has bounds p can. sym (and_none (nodes_tally has s place ns)); grow = omega arith }

pub put_then : (s : Search) (place i : ℕ) (b : Begun) (f g : Property → Point → TallyView) (olds mids news : List Node) → HasPut s place i b f olds mids → HasPut s place i b g mids news
    → HasPut s place i b (λ has p. both (f has p) (g has p)) olds news
put_then s place i b f g olds mids news one two =
    let more = one.grow in
    let most = two.grow in
    record {
      stand = λ bounds p can. two.stand bounds p (one.stand bounds p can);
      tally = λ has bounds p can.
          two.tally has bounds p (one.stand bounds p can)
          ∙ ap (λ t. both t (g has p)) (one.tally has bounds p can)
          ∙ both_regrouped (nodes_tally has s place olds) (f has p) (g has p);
      grow = omega (arith, more, most);
    }

-- What was put has the same tallies.
pub put_same : (s : Search) (place i : ℕ) (b : Begun) (f g : Property → Point → TallyView) (olds news : List Node) → ((has : Property) (p : Point) → slice_get (map point olds) i ≡ Some p → f has p ≡ g has p)
    → HasPut s place i b f olds news → HasPut s place i b g olds news
put_same s place i b f g olds news same put = record {
  stand = put.stand;
  tally = λ has bounds p can. put.tally has bounds p can ∙ ap (both (nodes_tally has s place olds)) (same has p can.at);
  grow = put.grow;
}

-- ---- each of the loose events that are left

next_left : (i : ℕ) (left : List ℕ) → left_at (i + 1) left ≡ remove left i
next_left i left = let next : i + 1 ≡ suc i = omega arith in ap (λ k. left_at k left) next

-- One of them can be inserted.
pub loose_room : (s : Search) (place i : ℕ) (p : Point) (b : Begun) → AreBegun s place p b → i < length p.left → (i + 1 ≤ length p.left) × (length b.spots + 1 + length (left_at (i + 1) p.left) ≤ most_of s)
loose_room s place i p b begun within =
    let few = begun.few in
    (omega (arith, within), omega (arith, few, ap length (next_left i p.left), length-remove p.left i within))
