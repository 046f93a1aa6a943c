-- Schedules that reach the same state: how many of those that continue from there have a property, and which is the
-- first.
use Rattle.std.specs.Prelude.{◌≡◌, ◌⊎◌, ◌<◌, ◌≤◌, ◌-◌, ◌==◌, ℕ, zero, suc, ◌+◌, ◌*◌, Bool, true, false, List, [], ◌∷◌, ◌++◌, length, map, drop, nat_lt, remove, slice_get, slice_index_or, Option, Some, None, option_map, if◌then◌else◌}
use Rattle.posix.specs.declared.event.Event.{Event}
use Rattle.posix.specs.declared.event.Event.TheVariants.{Tick}
use Rattle.posix.specs.Common.{numbered, IsRegular, IsSettled, State, World, boot, next}
use Rattle.schedules.specs.Families.{Spots, kinds_of, spot}
use Rattle.schedules.specs.Schedules.{event_of}
use Rattle.counting.specs.declared.ending.Ending.{Ending}
use Rattle.counting.specs.Books.{BookView, with_many_runs}
use Rattle.counting.specs.Courses.{course_from}
use Rattle.counting.specs.Endings.{ending_of}
use Rattle.counting.specs.Tallies.{TallyView, both, no_schedules}
use Rattle.counting.specs.Texts.{marked, unmarked}
use Rattle.times.specs.Times.{AreMoved}
use Rattle.merging.specs.declared.begun.Begun.{Begun}
use Rattle.merging.specs.declared.node.Node.{Node}
use Rattle.merging.specs.declared.search.Search.{Search}
use Rattle.merging.specs.declared.search.Stop.{Stop}
use Rattle.merging.specs.declared.search.Stop.TheVariants as stop

-- A property of a schedule, by how its run ends, and by the texts that its lines have.
abbrev pub Property : Type 0
Property = Ending → List Bool → Bool

-- ---- tallies

-- The tally of one schedule that inserts nothing more, if it has the property.
abbrev pub one_if : Bool → TallyView
one_if has = if has then record { count = 1; first = Some [] } else no_schedules

-- With this spot in front of each schedule.
abbrev pub from_spot : ℕ → TallyView → TallyView
from_spot q t = record { count = t.count; first = option_map (λ ps. q ∷ ps) t.first }

-- After each of `count` beginnings. `begun` has the spots of the first.
abbrev pub behind : ℕ → Spots → TallyView → TallyView
behind count begun t = record { count = count * t.count; first = option_map (λ ps. begun ++ ps) t.first }

-- ---- the schedules that continue from a state

-- How many of the schedules that continue from a state have a property, and which is the first, by the most spots that
-- can follow, the kinds of the loose events that are left, the state and the marks.
abbrev pub Outlook : Type 0
Outlook = ℕ → List ℕ → State → List Bool → TallyView

-- Two states are one if one is the other moved in time. States in which the machine has halted are one, too, because
-- nothing more happens in them.
abbrev pub AreOneState : State → State → Type 0
AreOneState s t = AreMoved s t ⊎ ((s.halted ≡ true) × (t.halted ≡ true))

-- The result is the same for states that are one.
abbrev pub Forgets : Outlook → Type 0
Forgets go_on = (n : ℕ) (left : List ℕ) (s t : State) (marks : List Bool) → AreOneState s t → go_on n left s marks ≡ go_on n left t marks

abbrev pub state_after : Event → State → State
state_after x s = (next true s x).state

abbrev pub marks_after : List (List ℕ) → Event → State → List Bool → List Bool
marks_after texts x s marks = marked texts (numbered 1 (next true s x).entries) marks

-- Nothing more is inserted, and these events are left.
unfoldable pub tally_of_rest : Property → List (List ℕ) → List Event → State → List Bool → TallyView
tally_of_rest has texts events s marks =
    let c = course_from 1 s events in
    one_if (has (ending_of c.last) (marked texts c.lines marks))

-- If no loose event is left.
abbrev pub if_none_left : List ℕ → TallyView → TallyView
if_none_left [] t = t
if_none_left (kind ∷ left) t = no_schedules

-- The tally over each of the first i kinds that are left, by the kind and the others.
abbrev pub over_kinds : (ℕ → List ℕ → TallyView) → ℕ → List ℕ → TallyView
over_kinds f zero left = no_schedules
over_kinds f (suc i) left = both (over_kinds f i left) (f (slice_index_or left i 0) (remove left i))

-- Before the event x with place p: a tick or a loose event is inserted, and more can follow; or x is next, and go_on
-- has what follows.
unfoldable pub tally_at_place : Outlook → List (List ℕ) → List Event → Event → ℕ → Outlook
tally_at_place go_on texts loose x p zero left s marks = go_on zero left (state_after x s) (marks_after texts x s marks)
tally_at_place go_on texts loose x p (suc n) left s marks =
    both
    (both
    (from_spot (spot (length loose) p 0) (tally_at_place go_on texts loose x p n left (state_after Tick s) (marks_after texts Tick s marks)))
    (over_kinds (λ kind others. from_spot (spot (length loose) p kind)
    (tally_at_place go_on texts loose x p n others (state_after (event_of loose kind) s) (marks_after texts (event_of loose kind) s marks))) (length left) left))
    (go_on (suc n) left (state_after x s) (marks_after texts x s marks))

-- The schedules of these events, the first of which has place p, that insert ticks and the remaining loose events
-- before the first `places` of them.
unfoldable pub tally_from : Property → List (List ℕ) → List Event → ℕ → ℕ → List Event → Outlook
tally_from has texts loose zero p events n left s marks = if_none_left left (tally_of_rest has texts events s marks)
tally_from has texts loose (suc places) p [] n left s marks = if_none_left left (tally_of_rest has texts [] s marks)
tally_from has texts loose (suc places) p (x ∷ events) n left s marks =
    tally_at_place (tally_from has texts loose places (p + 1) events) texts loose x p n left s marks

-- ---- what is searched

abbrev pub world_of : Search → World
world_of s = s.family.now.world.now

abbrev pub list_of : Search → List Event
list_of s = s.family.now.events.now

abbrev pub loose_of : Search → List Event
loose_of s = s.family.now.loose.now

abbrev pub texts_of : Search → List (List ℕ)
texts_of s = map (λ t. t.now) s.texts.now

-- The most spots of a schedule.
abbrev pub most_of : Search → ℕ
most_of s = s.family.now.ticks + length (loose_of s)

-- The schedules that continue from before the event with this place.
abbrev pub outlook_of : Property → Search → ℕ → Outlook
outlook_of has s place = tally_from has (texts_of s) (loose_of s) (s.family.now.upto - place) place (drop place (list_of s))

-- The schedules that continue from before the event with this place, and run this event next.
abbrev pub after_event : Property → Search → ℕ → Option Event → Outlook
after_event has s place None n left st marks = no_schedules
after_event has s place (Some x) n left st marks = outlook_of has s (place + 1) n left (state_after x st) (marks_after (texts_of s) x st marks)

-- The schedules that continue from before the event with this place, and insert nothing more before it.
abbrev pub past_of : Property → Search → ℕ → Outlook
past_of has s place = after_event has s place (slice_get (list_of s) place)

-- ---- points, and the beginnings of schedules that lead to them

-- What the schedules that continue from a node depend on: the state, the kinds of the loose events that are left, and
-- the marks.
pub record Point : Type 0 where
  pub state : State
  pub left : List ℕ
  pub marks : List Bool

abbrev pub point : Node → Point
point n = record { state = n.kernel.state; left = n.left.items; marks = n.marks.items }

-- Two points are one state, with the same loose events left and the same marks.
pub record AreAlike (p q : Point) : Type 0 where
  pub state : AreOneState p.state q.state
  pub left : p.left ≡ q.left
  pub marks : p.marks ≡ q.marks

-- The tally of the schedules that continue these beginnings from a point.
abbrev pub begun_tally : Outlook → ℕ → Point → Begun → TallyView
begun_tally go_on most p b = behind b.count b.spots (go_on (most - length b.spots) p.left p.state p.marks)

abbrev pub slot_tally : Outlook → ℕ → Point → Option Begun → TallyView
slot_tally go_on most p None = no_schedules
slot_tally go_on most p (Some b) = begun_tally go_on most p b

abbrev pub slots_tally : Outlook → ℕ → Point → List (Option Begun) → TallyView
slots_tally go_on most p [] = no_schedules
slots_tally go_on most p (b ∷ bs) = both (slot_tally go_on most p b) (slots_tally go_on most p bs)

-- ---- nodes

-- The tally of the schedules of a node. Its beginnings can go on with insertions. Those that have passed do not.
abbrev pub tally_of_node : Outlook → Outlook → ℕ → Node → TallyView
tally_of_node go_on past most n = both (slots_tally go_on most (point n) n.begun) (slots_tally past most (point n) n.passed)

-- The tally of the schedules of all nodes.
abbrev pub tally_of_nodes : Outlook → Outlook → ℕ → List Node → TallyView
tally_of_nodes go_on past most [] = no_schedules
tally_of_nodes go_on past most (n ∷ ns) = both (tally_of_node go_on past most n) (tally_of_nodes go_on past most ns)

-- What is seen of a node: everything except the count of reads of its kernel.
pub record SeenNode : Type 0 where
  pub point : Point
  pub events : ℕ
  pub begun : List (Option Begun)
  pub passed : List (Option Begun)
  pub edges : List (Option ℕ)

abbrev pub seen : Node → SeenNode
seen n = record { point = point n; events = n.kernel.events; begun = n.begun; passed = n.passed; edges = n.edges.items }

-- A node is unchanged, except for the count of reads.
abbrev pub IsSameNode : Node → Node → Type 0
IsSameNode old new = seen new ≡ seen old

-- These nodes are unchanged, except for the counts of reads.
abbrev pub AreSameNodes : List Node → List Node → Type 0
AreSameNodes old new = map seen new ≡ map seen old

-- ---- insertions before an event

-- An insertion is a tick, for 0, or one of the loose events that are left, by its index from 1. Its kind, and the kinds
-- that are left after it.
abbrev pub kind_at : ℕ → List ℕ → ℕ
kind_at zero left = 0
kind_at (suc i) left = slice_index_or left i 0

abbrev pub left_at : ℕ → List ℕ → List ℕ
left_at zero left = left
left_at (suc i) left = remove left i

-- The point after an event, with these loose events left.
abbrev pub point_after : Search → Event → List ℕ → Point → Point
point_after s x left p = record { state = state_after x p.state; left = left; marks = marks_after (texts_of s) x p.state p.marks }

-- The event of an insertion, and the point after it.
abbrev pub event_put : Search → ℕ → Point → Event
event_put s which p = event_of (loose_of s) (kind_at which p.left)

abbrev pub point_put : Search → ℕ → Point → Point
point_put s which p = point_after s (event_put s which p) (left_at which p.left) p

-- Where a node leads by an insertion, once that is known: the index of another node.
abbrev pub edge_at : List (Option ℕ) → ℕ → Option ℕ
edge_at edges which = slice_index_or edges which None

-- The insertion leads from a point to the point with this index.
abbrev pub LeadsTo : Search → List Point → Point → ℕ → ℕ → Type 0
LeadsTo s points p which j = (to : Point) × (slice_get points j ≡ Some to) × AreAlike (point_put s which p) to

-- ---- what is known of a node

-- Beginnings of schedules lead to a point before the event with this place. These events lead to a state that is one
-- with its state. What is left can still be inserted, and one schedule or more begins so.
pub record AreBegun (s : Search) (place : ℕ) (p : Point) (b : Begun) : Type 0 where
  pub reached : AreOneState p.state (course_from 1 (boot (world_of s)) b.given).last
  pub given : length b.given ≡ place + length b.spots
  pub few : length b.spots + length p.left ≤ most_of s
  pub some : 1 ≤ b.count

-- Each of these beginnings leads to the point, and has `fewest` spots or more.
abbrev pub AllBegun : Search → ℕ → ℕ → Point → List (Option Begun) → Type 0
AllBegun s place fewest p bs = (k : ℕ) (b : Begun) → slice_get bs k ≡ Some (Some b) → (fewest ≤ length b.spots) × AreBegun s place p b

-- There are beginnings.
abbrev pub HasSome : List (Option Begun) → Type 0
HasSome bs = (k : ℕ) × (b : Begun) × (slice_get bs k ≡ Some (Some b))

-- A point before the event with this place: a machine has reached its state in the world of the search. There is a mark
-- for each text. At the last place where events can be inserted, none is left.
pub record IsPoint (s : Search) (place : ℕ) (p : Point) : Type 0 where
  pub world : p.state.world ≡ world_of s
  pub regular : IsRegular p.state
  pub settled : IsSettled p.state
  pub marks : length p.marks ≡ length (texts_of s)
  pub last : place ≡ s.family.now.upto → p.left ≡ []

-- What is asked of a node: its beginnings that can go on have `fewest` spots or more; and if `some`, it has beginnings.
pub record Bound : Type 0 where
  pub fewest : ℕ
  pub some : Bool

-- The same of all but the node with this index, of which this is asked.
abbrev pub bound_at : ℕ → Bound → (ℕ → Bound) → ℕ → Bound
bound_at index bound bounds i = if i == index then bound else bounds i

-- The node with this index need not have beginnings.
abbrev pub unless_at : ℕ → (ℕ → Bound) → ℕ → Bound
unless_at index bounds = bound_at index (record { fewest = (bounds index).fewest; some = false }) bounds

-- The node with this index has no beginnings with this many spots or fewer that can go on.
abbrev pub without_spots : ℕ → ℕ → (ℕ → Bound) → ℕ → Bound
without_spots spots index bounds = bound_at index (record { fewest = spots + 1; some = (bounds index).some }) bounds

-- A node is before the event with this place. Its kernel has run no more events than a schedule has before that event.
-- It leads where its edges say, among these points.
pub record StandsAt (s : Search) (place : ℕ) (bound : Bound) (points : List Point) (n : SeenNode) : Type 0 where
  pub point : IsPoint s place n.point
  pub events : n.events ≤ place + most_of s
  pub begun : AllBegun s place bound.fewest n.point n.begun
  pub passed : AllBegun s place 0 n.point n.passed
  pub some : bound.some ≡ true → HasSome n.begun ⊎ HasSome n.passed
  pub leads : (which j : ℕ) → edge_at n.edges which ≡ Some j → LeadsTo s points n.point which j

-- Each node is before the event with this place, with a bound for each index.
abbrev pub AllStand : Search → ℕ → (ℕ → Bound) → List Point → List Node → Type 0
AllStand s place bounds points nodes = (i : ℕ) (n : Node) → slice_get nodes i ≡ Some n → StandsAt s place (bounds i) points (seen n)

-- Each has beginnings, and those that can go on have this many spots or more.
abbrev pub from_spots : ℕ → ℕ → Bound
from_spots fewest i = record { fewest = fewest; some = true }

-- Nodes before the event with this place, each with beginnings.
abbrev pub AreNodes : Search → ℕ → ℕ → List Node → Type 0
AreNodes s place fewest nodes = AllStand s place (from_spots fewest) (map point nodes) nodes

-- No beginnings of these nodes have passed.
abbrev pub NonePassed : List Node → Type 0
NonePassed nodes = (i : ℕ) (n : Node) → slice_get nodes i ≡ Some n → n.passed ≡ []

-- These beginnings lead to the node with this index, whose point this is, and can go on with insertions.
pub record CanGoOn (s : Search) (place : ℕ) (bounds : ℕ → Bound) (nodes : List Node) (i : ℕ) (p : Point) (b : Begun) : Type 0 where
  pub before : place < s.family.now.upto
  pub at : slice_get (map point nodes) i ≡ Some p
  pub begun : AreBegun s place p b
  pub stand : AllStand s place bounds (map point nodes) nodes
  pub fewest : (j : ℕ) → (bounds j).fewest ≤ length b.spots + 1

-- The same, with some bounds and the point of the node.
abbrev pub AreReady : Search → ℕ → List Node → ℕ → Begun → Type 0
AreReady s place nodes i b = (bounds : ℕ → Bound) × (p : Point) × CanGoOn s place bounds nodes i p b

-- They can also go on with this insertion, after which all loose events that are left can be inserted.
abbrev pub CanPut : Search → ℕ → List Node → ℕ → Begun → ℕ → Type 0
CanPut s place nodes i b which =
    (bounds : ℕ → Bound) × (p : Point) × CanGoOn s place bounds nodes i p b × (which ≤ length p.left) × (length b.spots + 1 + length (left_at which p.left) ≤ most_of s)

-- A node of which only the point is known.
pub record IsFresh (n : SeenNode) : Type 0 where
  pub begun : n.begun ≡ []
  pub passed : n.passed ≡ []
  pub edges : n.edges ≡ []

-- ---- tallies before an event

-- The tally of the schedules of nodes before the event with this place.
abbrev pub nodes_tally : Property → Search → ℕ → List Node → TallyView
nodes_tally has s place nodes = tally_of_nodes (outlook_of has s place) (past_of has s place) (most_of s) nodes

-- The tally of these beginnings at a point before that event, by whether they can go on with insertions.
abbrev pub goes_on_tally : Property → Search → ℕ → Point → Begun → TallyView
goes_on_tally has s place p b = begun_tally (outlook_of has s place) (most_of s) p b

abbrev pub past_tally : Property → Search → ℕ → Point → Begun → TallyView
past_tally has s place p b = begun_tally (past_of has s place) (most_of s) p b

-- With an event of this kind inserted before the event with this place, and these other kinds left.
abbrev pub kind_tally : Property → Search → ℕ → Point → Begun → ℕ → List ℕ → TallyView
kind_tally has s place p b kind others =
    let x = event_of (loose_of s) kind in
    behind b.count (b.spots ++ spot (length (loose_of s)) place kind ∷ [])
    (outlook_of has s place (most_of s - (length b.spots + 1)) others (state_after x p.state) (marks_after (texts_of s) x p.state p.marks))

-- With this insertion.
abbrev pub put_tally : Property → Search → ℕ → Point → Begun → ℕ → TallyView
put_tally has s place p b which = kind_tally has s place p b (kind_at which p.left) (left_at which p.left)

-- With a tick, if one more is allowed.
abbrev pub tick_tally : Property → Search → ℕ → Point → Begun → TallyView
tick_tally has s place p b = if nat_lt (length b.spots + length p.left) (most_of s) then put_tally has s place p b 0 else no_schedules

-- With each of the remaining loose events.
abbrev pub loose_tally : Property → Search → ℕ → Point → Begun → TallyView
loose_tally has s place p b = over_kinds (kind_tally has s place p b) (length p.left) p.left

-- ---- nodes before and after insertions

-- An insertion leads from the node with index `i` to the one with index `to`. That need not have beginnings: what these
-- beginnings become is not added yet.
pub record HasLed (s : Search) (i : ℕ) (b : Begun) (which to : ℕ) (olds news : List Node) : Type 0 where
  pub stand : (place : ℕ) (bounds : ℕ → Bound) (p : Point) → CanGoOn s place bounds olds i p b → CanGoOn s place (unless_at to bounds) news i p b × LeadsTo s (map point news) p which to
  pub tally : (has : Property) (place : ℕ) → nodes_tally has s place news ≡ nodes_tally has s place olds
  pub grow : length olds ≤ length news

-- What these beginnings of the node with this index become by insertions was added. `more` has the schedules of that, by
-- their property and the point of the node.
pub record HasPut (s : Search) (place i : ℕ) (b : Begun) (more : Property → Point → TallyView) (olds news : List Node) : Type 0 where
  pub stand : (bounds : ℕ → Bound) (p : Point) → CanGoOn s place bounds olds i p b → CanGoOn s place bounds news i p b
  pub tally : (has : Property) (bounds : ℕ → Bound) (p : Point) → CanGoOn s place bounds olds i p b → nodes_tally has s place news ≡ both (nodes_tally has s place olds) (more has p)
  pub grow : length olds ≤ length news

-- ---- why a search stops

-- The tally of all schedules of the search.
abbrev pub from_start : Property → Search → TallyView
from_start has s = outlook_of has s 0 (most_of s) (kinds_of (length (loose_of s))) (boot (world_of s)) (unmarked (texts_of s))

-- More nodes are before the event with this place than the search may keep. Their schedules are some of these
-- schedules.
pub record AreTooMany (s : Search) (place : ℕ) (whole : Property → TallyView) (nodes : List Node) : Type 0 where
  pub stand : AreNodes s place 0 nodes
  pub more : s.family.now.states < length nodes
  pub some : (has : Property) → (others : TallyView) × (whole has ≡ both (nodes_tally has s place nodes) others)

-- The search of these schedules stops because memory ran out, or because too many nodes are before the event with this
-- place.
abbrev pub IsStop : Search → (Property → TallyView) → Stop → Type 0
IsStop s whole stop.Memory = Unit {0}
IsStop s whole (stop.States most place) = (most ≡ s.family.now.states) × (place ≤ s.family.now.upto) × (nodes : List Node) × AreTooMany s place whole nodes

-- The search stops, for all its schedules.
abbrev pub IsStopOf : Search → Stop → Type 0
IsStopOf s why = IsStop s (λ has. from_start has s) why

-- ---- the book of many schedules

-- With the schedules of these beginnings, which end in this way, and whose lines have the marked texts.
abbrev pub with_slot : Ending → List Bool → Option Begun → BookView → BookView
with_slot ending marks None b = b
with_slot ending marks (Some begun) b = with_many_runs ending marks (record { count = begun.count; first = Some begun.spots }) b

-- With the schedules of all these beginnings, the last first.
abbrev pub with_slots : Ending → List Bool → List (Option Begun) → BookView → BookView
with_slots ending marks [] b = b
with_slots ending marks (begun ∷ bs) b = with_slot ending marks begun (with_slots ending marks bs b)

-- With these beginnings at a point, from which these events are left, and which insert nothing more.
abbrev pub counted_slots : List (List ℕ) → List Event → Point → List (Option Begun) → BookView → BookView
counted_slots texts events p begun b =
    let c = course_from 1 p.state events in
    with_slots (ending_of c.last) (marked texts c.lines p.marks) begun b

-- With the schedules of all nodes, the last node first.
abbrev pub counted_all : List (List ℕ) → List Event → List Node → BookView → BookView
counted_all texts events [] b = b
counted_all texts events (n ∷ ns) b = counted_slots texts events (point n) n.begun (counted_all texts events ns b)
