-- The nodes of a layer: one is replaced by another, is added, or has its reads counted.
use Rattle.std.proofs.Common.{◌≡◌, ℕ, zero, suc, ◌+◌, ◌<◌, ◌≤◌, ◌==◌, inl, inr, ◌⊎◌, Bool, true, false, true≢false, cond, List, [], ◌∷◌, ◌++◌, length, map, None, Some, Option, refl, ap, ap₂, sym, subst, ◌∙◌, arith, get_or, slice_get, slice_set}
use Rattle.std.specs.List.{All}
use Rattle.std.proofs.lemmas.Bool.{eq-eqb, eqb-true, ne_eqb}
use Rattle.std.proofs.lemmas.List.{map-append}
use Rattle.std.proofs.lemmas.Option.{get_or_from_slice_get, slice_get-get_or, slice_get_within}
use Rattle.counting.specs.Tallies.{TallyView, both, no_schedules}
use Rattle.merging.specs.declared.begun.Begun.{Begun}
use Rattle.merging.specs.declared.node.Node.{Node}
use Rattle.merging.specs.declared.search.Search.{Search}
use Rattle.merging.specs.Merging.{AllBegun, AllStand, AreAlike, AreSameNodes, Bound, HasSome, IsFresh, IsPoint, IsSameNode, LeadsTo, NonePassed, Outlook, Point, SeenNode, StandsAt, bound_at, edge_at, most_of, point, seen, slots_tally, tally_of_node, tally_of_nodes, unless_at}
use Rattle.merging.proofs.IndexLemmas.{last_there, map_put, push_cases, put_cases, same_there, still_there}
use Rattle.merging.proofs.TallyLemmas.{and_none, both_regrouped, both_swapped, swapped_last}

-- ---- nodes that are equal except for the count of reads

-- Two nodes that are one still are.
pub one_still : (n m k l : Node) → IsSameNode n m → IsSameNode k l → AreAlike (point n) (point k) → AreAlike (point m) (point l)
one_still n m k l a b one =
    subst (λ p. AreAlike p (point l)) (sym (ap (λ (v : SeenNode). v.point) a)) (subst (AreAlike (point n)) (sym (ap (λ (v : SeenNode). v.point) b)) one)

pub tally_same : (n m : Node) (go_on past : Outlook) (most : ℕ) → IsSameNode n m → tally_of_node go_on past most m ≡ tally_of_node go_on past most n
tally_same n m go_on past most same = ap (λ (v : SeenNode). both (slots_tally go_on most v.point v.begun) (slots_tally past most v.point v.passed)) same

pub tallies_same : (ns ms : List Node) (go_on past : Outlook) (most : ℕ) → AreSameNodes ns ms → tally_of_nodes go_on past most ms ≡ tally_of_nodes go_on past most ns
tallies_same [] [] go_on past most same = refl
tallies_same [] (m ∷ ms) go_on past most same = cc
tallies_same (n ∷ ns) [] go_on past most same = cc
tallies_same (n ∷ ns) (m ∷ ms) go_on past most same =
    let first : IsSameNode n m = cc in
    let rest : AreSameNodes ns ms = cc in
    ap₂ both (tally_same n m go_on past most first) (tallies_same ns ms go_on past most rest)

pub points_same : (ns ms : List Node) → AreSameNodes ns ms → map point ms ≡ map point ns
points_same [] [] same = refl
points_same [] (m ∷ ms) same = cc
points_same (n ∷ ns) [] same = cc
points_same (n ∷ ns) (m ∷ ms) same =
    let first : IsSameNode n m = cc in
    let rest : AreSameNodes ns ms = cc in
    ap₂ (λ p ps. p ∷ ps) (ap (λ (v : SeenNode). v.point) first) (points_same ns ms rest)

-- Each of them was there before.
seen_before : (ns ms : List Node) (i : ℕ) (m : Node) → AreSameNodes ns ms → slice_get ms i ≡ Some m → (n : Node) × (slice_get ns i ≡ Some n) × IsSameNode n m
seen_before [] [] i m same e = cc
seen_before [] (k ∷ ms) i m same e = cc
seen_before (n ∷ ns) [] i m same e = cc
seen_before (n ∷ ns) (k ∷ ms) zero m same e =
    let is : k ≡ m = cc in
    let first : IsSameNode n k = cc in
    (n, refl, subst (λ x. IsSameNode n x) is first)
seen_before (n ∷ ns) (k ∷ ms) (suc i) m same e = let rest : AreSameNodes ns ms = cc in seen_before ns ms i m rest e

pub stand_same : (s : Search) (place : ℕ) (bounds : ℕ → Bound) (points : List Point) (ns ms : List Node) → AreSameNodes ns ms → AllStand s place bounds points ns → AllStand s place bounds points ms
stand_same s place bounds points ns ms same all i m e =
    let was = seen_before ns ms i m same e in
    subst (StandsAt s place (bounds i) points) (sym was.2) (all i was.0 was.1)

pub passed_same : (ns ms : List Node) → AreSameNodes ns ms → NonePassed ns → NonePassed ms
passed_same ns ms same none i m e =
    let was = seen_before ns ms i m same e in
    ap (λ (v : SeenNode). v.passed) was.2 ∙ none i was.0 was.1

-- ---- one more node, or another node in place of one

-- A node is replaced, and other schedules make up the difference.
tallies_set : (ns : List Node) (i : ℕ) (n m : Node) (go_on past : Outlook) (most : ℕ) (x y : TallyView) → slice_get ns i ≡ Some n
    → both (tally_of_node go_on past most m) x ≡ both (tally_of_node go_on past most n) y → both (tally_of_nodes go_on past most (slice_set ns i m)) x ≡ both (tally_of_nodes go_on past most ns) y
tallies_set [] i n m go_on past most x y e same = cc
tallies_set (k ∷ ns) zero n m go_on past most x y e same =
    let is : n ≡ k = cc in
    let rest = tally_of_nodes go_on past most ns in
    swapped_last (tally_of_node go_on past most m) rest x
    ∙ ap (λ t. both t rest) same
    ∙ swapped_last (tally_of_node go_on past most n) y rest
    ∙ ap (λ (z : Node). both (both (tally_of_node go_on past most z) rest) y) is
tallies_set (k ∷ ns) (suc i) n m go_on past most x y e same =
    let first = tally_of_node go_on past most k in
    both_regrouped first (tally_of_nodes go_on past most (slice_set ns i m)) x
    ∙ ap (both first) (tallies_set ns i n m go_on past most x y e same)
    ∙ sym (both_regrouped first (tally_of_nodes go_on past most ns) y)

-- A node has more schedules.
pub tallies_put : (ns : List Node) (i : ℕ) (n m : Node) (go_on past : Outlook) (most : ℕ) (more : TallyView) → slice_get ns i ≡ Some n
    → tally_of_node go_on past most m ≡ both (tally_of_node go_on past most n) more → tally_of_nodes go_on past most (slice_set ns i m) ≡ both (tally_of_nodes go_on past most ns) more
tallies_put ns i n m go_on past most more e joined =
    sym (and_none (tally_of_nodes go_on past most (slice_set ns i m))) ∙ tallies_set ns i n m go_on past most no_schedules more e (and_none (tally_of_node go_on past most m) ∙ joined)

-- A node has fewer schedules.
pub tallies_taken : (ns : List Node) (i : ℕ) (n m : Node) (go_on past : Outlook) (most : ℕ) (more : TallyView) → slice_get ns i ≡ Some n
    → tally_of_node go_on past most n ≡ both (tally_of_node go_on past most m) more → tally_of_nodes go_on past most ns ≡ both (tally_of_nodes go_on past most (slice_set ns i m)) more
tallies_taken ns i n m go_on past most more e parts =
    sym (tallies_set ns i n m go_on past most more no_schedules e (sym parts ∙ sym (and_none (tally_of_node go_on past most n))) ∙ and_none (tally_of_nodes go_on past most ns))

-- A node is added after the others.
pub tallies_more : (ns : List Node) (n : Node) (go_on past : Outlook) (most : ℕ) → tally_of_nodes go_on past most (ns ++ n ∷ []) ≡ both (tally_of_nodes go_on past most ns) (tally_of_node go_on past most n)
tallies_more [] n go_on past most = both_swapped (tally_of_node go_on past most n) no_schedules
tallies_more (m ∷ ns) n go_on past most =
    ap (both (tally_of_node go_on past most m)) (tallies_more ns n go_on past most)
    ∙ sym (both_regrouped (tally_of_node go_on past most m) (tally_of_nodes go_on past most ns) (tally_of_node go_on past most n))

-- A node without beginnings has no schedules.
pub none_of_fresh : (n : Node) (go_on past : Outlook) (most : ℕ) → IsFresh (seen n) → tally_of_node go_on past most n ≡ no_schedules
none_of_fresh n go_on past most fresh = ap₂ both (ap (slots_tally go_on most (point n)) fresh.begun) (ap (slots_tally past most (point n)) fresh.passed)

-- More beginnings of a node can go on.
pub node_more : (n m : Node) (go_on past : Outlook) (most : ℕ) (more : TallyView) → point m ≡ point n → m.passed ≡ n.passed
    → slots_tally go_on most (point n) m.begun ≡ both (slots_tally go_on most (point n) n.begun) more → tally_of_node go_on past most m ≡ both (tally_of_node go_on past most n) more
node_more n m go_on past most more same passed begun =
    let b = slots_tally go_on most (point n) n.begun in
    let q = slots_tally past most (point n) n.passed in
    ap₂ (λ p bs. both (slots_tally go_on most p m.begun) (slots_tally past most p bs)) same passed
    ∙ ap (λ t. both t q) begun
    ∙ swapped_last b more q

pub passed_put : (ns : List Node) (i : ℕ) (m : Node) → NonePassed ns → m.passed ≡ [] → NonePassed (slice_set ns i m)
passed_put ns i m all is j n e = by (put_cases ns i j m n e)
  where
    by : ((j ≡ i) × (m ≡ n)) ⊎ ((j ≡ i → ⊥) × (slice_get ns j ≡ Some n)) → n.passed ≡ []
    by (inl (at, it)) = ap (λ (x : Node). x.passed) (sym it) ∙ is
    by (inr (apart, old)) = all j n old

-- ---- more points, and other bounds

pub stands_more : (s : Search) (place : ℕ) (bound : Bound) (points more : List Point) (n : SeenNode) → StandsAt s place bound points n → StandsAt s place bound (points ++ more) n
stands_more s place bound points more n is = record {
  point = is.point;
  events = is.events;
  begun = is.begun;
  passed = is.passed;
  some = is.some;
  leads = λ which j e. let to = is.leads which j e in (to.0, still_there points more j to.0 to.1, to.2);
}

pub stands_weaker : (s : Search) (place : ℕ) (old new : Bound) (points : List Point) (n : SeenNode) → new.fewest ≤ old.fewest → (new.some ≡ true → old.some ≡ true) → StandsAt s place old points n → StandsAt s place new points n
stands_weaker s place old new points n lower some is = record {
  point = is.point;
  events = is.events;
  begun = λ k b e. let it = is.begun k b e in let had = it.0 in (omega (arith, had, lower), it.1);
  passed = is.passed;
  some = λ t. is.some (some t);
  leads = is.leads;
}

pub stand_weaker : (s : Search) (place : ℕ) (old new : ℕ → Bound) (points : List Point) (ns : List Node)
    → ((i : ℕ) → i < length ns → ((new i).fewest ≤ (old i).fewest) × ((new i).some ≡ true → (old i).some ≡ true))
    → AllStand s place old points ns → AllStand s place new points ns
stand_weaker s place old new points ns lower all i n e =
    let l = lower i (slice_get_within ns i n e) in stands_weaker s place (old i) (new i) points (seen n) l.0 l.1 (all i n e)

pub stand_push : (s : Search) (place : ℕ) (bounds : ℕ → Bound) (ns : List Node) (n : Node) → AllStand s place bounds (map point ns) ns → StandsAt s place (bounds (length ns)) (map point (ns ++ n ∷ [])) (seen n)
    → AllStand s place bounds (map point (ns ++ n ∷ [])) (ns ++ n ∷ [])
stand_push s place bounds ns n all is i m e = by (push_cases ns i n m e)
  where
    by : ((i ≡ length ns) × (n ≡ m)) ⊎ (slice_get ns i ≡ Some m) → StandsAt s place (bounds i) (map point (ns ++ n ∷ [])) (seen m)
    by (inl (at, it)) = subst (λ k. StandsAt s place (bounds k) (map point (ns ++ n ∷ [])) (seen m)) (sym at) (subst (λ (x : Node). StandsAt s place (bounds (length ns)) (map point (ns ++ n ∷ [])) (seen x)) it is)
    by (inr old) = subst (λ ps. StandsAt s place (bounds i) ps (seen m)) (sym (map-append point ns (n ∷ []))) (stands_more s place (bounds i) (map point ns) (map point (n ∷ [])) (seen m) (all i m old))

pub passed_push : (ns : List Node) (n : Node) → NonePassed ns → n.passed ≡ [] → NonePassed (ns ++ n ∷ [])
passed_push ns n all is i m e = by (push_cases ns i n m e)
  where
    by : ((i ≡ length ns) × (n ≡ m)) ⊎ (slice_get ns i ≡ Some m) → m.passed ≡ []
    by (inl (at, it)) = ap (λ (x : Node). x.passed) (sym it) ∙ is
    by (inr old) = all i m old

-- ---- one world

-- A machine of a node is in the world of the search.
pub all_worlds : (s : Search) (place : ℕ) (bounds : ℕ → Bound) (points : List Point) (ns : List Node) (m : Node) → AllStand s place bounds points ns → IsPoint s place (point m)
    → All (λ (n : Node). n.kernel.state.world ≡ m.kernel.state.world) ns
all_worlds s place bounds points ns m all is = λ k d l.
    let n = get_or ns k d in
    let at = all k n (slice_get-get_or ns k d l) in
    at.point.world ∙ sym is.world

-- They still are of one world.
pub worlds_still : (ns ms : List Node) (n m : Node) → AreSameNodes ns ms → IsSameNode n m → All (λ (k : Node). k.kernel.state.world ≡ n.kernel.state.world) ns
    → All (λ (k : Node). k.kernel.state.world ≡ m.kernel.state.world) ms
worlds_still ns ms n m all same worlds = λ k d l.
    let x = get_or ms k d in
    let was = seen_before ns ms k x all (slice_get-get_or ms k d l) in
    let within = slice_get_within ns k was.0 was.1 in
    let there = ap (λ (y : Node). y.kernel.state.world) (sym (get_or_from_slice_get ns k was.0 was.0 was.1)) in
    ap (λ (v : SeenNode). v.point.state.world) was.2 ∙ there ∙ worlds k was.0 within ∙ sym (ap (λ (v : SeenNode). v.point.state.world) same)

-- ---- a node is found or added

-- The bound of the node with the index, and of another one.
pub at_index : (i : ℕ) (bound : Bound) (bounds : ℕ → Bound) → bound_at i bound bounds i ≡ bound
at_index i bound bounds = ap (λ b. cond b bound (bounds i)) (eq-eqb i i refl)

pub at_other : (i : ℕ) (bound : Bound) (bounds : ℕ → Bound) (j : ℕ) → (j ≡ i → ⊥) → bound_at i bound bounds j ≡ bounds j
at_other i bound bounds j apart = ap (λ b. cond b bound (bounds j)) (ne_eqb j i apart)

-- No bound asks for more spots than this.
pub at_most : (i most : ℕ) (bound : Bound) (bounds : ℕ → Bound) → bound.fewest ≤ most → ((j : ℕ) → (bounds j).fewest ≤ most) → (j : ℕ) → (bound_at i bound bounds j).fewest ≤ most
at_most i most bound bounds here others j = by (j == i)
  where
    by : (b : Bool) → (cond b bound (bounds j)).fewest ≤ most
    by true = here
    by false = others j

unless_lower : (i : ℕ) (bounds : ℕ → Bound) (j : ℕ) → ((unless_at i bounds j).fewest ≤ (bounds j).fewest) × ((unless_at i bounds j).some ≡ true → (bounds j).some ≡ true)
unless_lower i bounds j = by (j == i) refl
  where
    by : (b : Bool) → (j == i) ≡ b → ((cond b (record { fewest = (bounds i).fewest; some = false }) (bounds j)).fewest ≤ (bounds j).fewest)
        × ((cond b (record { fewest = (bounds i).fewest; some = false }) (bounds j)).some ≡ true → (bounds j).some ≡ true)
    by true same = (omega (arith, ap (λ k. (bounds k).fewest) (eqb-true j i same)), λ t. absurd (true≢false (sym t)))
    by false other = (omega arith, λ t. t)

no_edge : (which : ℕ) → edge_at [] which ≡ None
no_edge zero = refl
no_edge (suc which) = refl

-- A node without beginnings.
fresh_stands : (s : Search) (place fewest : ℕ) (points : List Point) (n : SeenNode) → IsFresh n → IsPoint s place n.point → n.events ≤ place + most_of s → StandsAt s place (record { fewest = fewest; some = false }) points n
fresh_stands s place fewest points n fresh is few = record {
  point = is;
  events = few;
  begun = subst (AllBegun s place fewest n.point) (sym fresh.begun) (λ k b e. cc);
  passed = subst (AllBegun s place 0 n.point) (sym fresh.passed) (λ k b e. cc);
  some = λ t. absurd (true≢false (sym t));
  leads = λ which j e. let none = sym (no_edge which) ∙ ap (λ es. edge_at es which) (sym fresh.edges) ∙ e in cc;
}

pub found_stand : (s : Search) (place : ℕ) (bounds : ℕ → Bound) (olds ns : List Node) (i : ℕ) → AreSameNodes olds ns → AllStand s place bounds (map point olds) olds → AllStand s place (unless_at i bounds) (map point ns) ns
found_stand s place bounds olds ns i same all =
    stand_weaker s place bounds (unless_at i bounds) (map point ns) ns (λ j l. unless_lower i bounds j)
    (subst (λ ps. AllStand s place bounds ps ns) (sym (points_same olds ns same)) (stand_same s place bounds (map point olds) olds ns same all))

pub pushed_there : (ns xs : List Node) (n : Node) → xs ≡ ns ++ n ∷ [] → slice_get xs (length ns) ≡ Some n
pushed_there ns xs n is = ap (λ ys. slice_get ys (length ns)) is ∙ last_there ns n

pub pushed_points : (olds ns xs : List Node) (n : Node) → AreSameNodes olds ns → xs ≡ ns ++ n ∷ [] → map point xs ≡ map point olds ++ point n ∷ []
pushed_points olds ns xs n same is = ap (map point) is ∙ map-append point ns (n ∷ []) ∙ ap (λ ps. ps ++ point n ∷ []) (points_same olds ns same)

pub pushed_stand : (s : Search) (place : ℕ) (bounds : ℕ → Bound) (olds ns xs : List Node) (n : Node) → AreSameNodes olds ns → xs ≡ ns ++ n ∷ [] → IsFresh (seen n) → AllStand s place bounds (map point olds) olds
    → IsPoint s place (point n) → n.kernel.events ≤ place + most_of s → AllStand s place (unless_at (length ns) bounds) (map point xs) xs
pushed_stand s place bounds olds ns xs n same is fresh all at few =
    subst (λ ys. AllStand s place (unless_at (length ns) bounds) (map point ys) ys) (sym is)
    (stand_push s place (unless_at (length ns) bounds) ns n (found_stand s place bounds olds ns (length ns) same all)
    (subst (λ b. StandsAt s place b (map point (ns ++ n ∷ [])) (seen n)) (sym (at_index (length ns) (record { fewest = (bounds (length ns)).fewest; some = false }) bounds))
    (fresh_stands s place (bounds (length ns)).fewest (map point (ns ++ n ∷ [])) (seen n) fresh at few)))

pub pushed_tallies : (go_on past : Outlook) (most : ℕ) (olds ns xs : List Node) (n : Node) → AreSameNodes olds ns → xs ≡ ns ++ n ∷ [] → IsFresh (seen n) → tally_of_nodes go_on past most xs ≡ tally_of_nodes go_on past most olds
pushed_tallies go_on past most olds ns xs n same is fresh =
    ap (tally_of_nodes go_on past most) is
    ∙ tallies_more ns n go_on past most
    ∙ ap₂ both (tallies_same olds ns go_on past most same) (none_of_fresh n go_on past most fresh)
    ∙ and_none (tally_of_nodes go_on past most olds)

-- ---- a node gets beginnings

-- Another node is put in place of one, with a bound of its own.
pub stand_put : (s : Search) (place : ℕ) (old new : ℕ → Bound) (ns : List Node) (i : ℕ) (n m : Node) → slice_get ns i ≡ Some n → point m ≡ point n → ((j : ℕ) → (j ≡ i → ⊥) → old j ≡ new j)
    → AllStand s place old (map point ns) ns → StandsAt s place (new i) (map point ns) (seen m) → AllStand s place new (map point (slice_set ns i m)) (slice_set ns i m)
stand_put s place old new ns i n m e same others all there j x at = subst (λ ps. StandsAt s place (new j) ps (seen x)) (sym (map_put point ns i n m e same)) (by (put_cases ns i j m x at))
  where
    by : ((j ≡ i) × (m ≡ x)) ⊎ ((j ≡ i → ⊥) × (slice_get ns j ≡ Some x)) → StandsAt s place (new j) (map point ns) (seen x)
    by (inl (here, it)) = subst (λ k. StandsAt s place (new k) (map point ns) (seen x)) (sym here) (subst (λ (y : Node). StandsAt s place (new i) (map point ns) (seen y)) it there)
    by (inr (apart, was)) = subst (λ b. StandsAt s place b (map point ns) (seen x)) (others j apart) (all j x was)

-- Beginnings of a node that can go on, other than before.
pub with_begun_stands : (s : Search) (place : ℕ) (old new : Bound) (points : List Point) (n m : Node) → point m ≡ point n → m.kernel.events ≡ n.kernel.events → m.passed ≡ n.passed → m.edges.items ≡ n.edges.items
    → AllBegun s place new.fewest (point n) m.begun → (new.some ≡ true → HasSome m.begun ⊎ HasSome m.passed) → StandsAt s place old points (seen n) → StandsAt s place new points (seen m)
with_begun_stands s place old new points n m same events passed edges begun has was = record {
  point = subst (IsPoint s place) (sym same) was.point;
  events = subst (λ k. k ≤ place + most_of s) (sym events) was.events;
  begun = subst (λ p. AllBegun s place new.fewest p m.begun) (sym same) begun;
  passed = subst (λ p. AllBegun s place 0 p m.passed) (sym same) (subst (AllBegun s place 0 (point n)) (sym passed) was.passed);
  some = has;
  leads = λ which k led. subst (λ p. LeadsTo s points p which k) (sym same) (was.leads which k (ap (λ es. edge_at es which) (sym edges) ∙ led));
}

pub fewer_begun : (s : Search) (place fewest fewer : ℕ) (p : Point) (bs : List (Option Begun)) → fewer ≤ fewest → AllBegun s place fewest p bs → AllBegun s place fewer p bs
fewer_begun s place fewest fewer p bs lower all = λ k b e. let it = all k b e in let had = it.0 in (omega (arith, had, lower), it.1)

-- The node that was read there is alike.
pub there_alike : (ns : List Node) (i : ℕ) (it m : Node) (p : Point) → slice_get ns i ≡ Some it → slice_get ns i ≡ Some m → AreAlike (point it) p → AreAlike (point m) p
there_alike ns i it m p e there alike = subst (λ (x : Node). AreAlike (point x) p) (same_there ns i it m e there) alike

pub filled_points : (olds : List Point) (ns : List Node) (i : ℕ) (m new : Node) → slice_get ns i ≡ Some m → point new ≡ point m → (more : List Point) × (map point ns ≡ olds ++ more)
    → (more : List Point) × (map point (slice_set ns i new) ≡ olds ++ more)
filled_points olds ns i m new there same grown = (grown.0, map_put point ns i m new there same ∙ grown.1)

pub filled_tallies : (go_on past : Outlook) (most : ℕ) (ns : List Node) (i : ℕ) (m new : Node) (more : TallyView) → slice_get ns i ≡ Some m → point new ≡ point m → new.passed ≡ m.passed
    → slots_tally go_on most (point m) new.begun ≡ both (slots_tally go_on most (point m) m.begun) more → tally_of_nodes go_on past most (slice_set ns i new) ≡ both (tally_of_nodes go_on past most ns) more
filled_tallies go_on past most ns i m new more there same passed added = tallies_put ns i m new go_on past most more there (node_more m new go_on past most more same passed added)

-- The node with this index was asked for no beginnings, and has some now.
pub filled_stand : (s : Search) (place : ℕ) (bounds : ℕ → Bound) (ns : List Node) (i : ℕ) (m new : Node) → slice_get ns i ≡ Some m
    → point new ≡ point m → new.kernel.events ≡ m.kernel.events → new.passed ≡ m.passed → new.edges.items ≡ m.edges.items
    → (AllBegun s place (bounds i).fewest (point m) m.begun → AllBegun s place (bounds i).fewest (point m) new.begun) → HasSome new.begun
    → AllStand s place (unless_at i bounds) (map point ns) ns → AllStand s place bounds (map point (slice_set ns i new)) (slice_set ns i new)
filled_stand s place bounds ns i m new there same events passed edges added has all =
    let none : Bound = record { fewest = (bounds i).fewest; some = false } in
    let was = all i m there in
    let had = subst (λ k. AllBegun s place k (point m) m.begun) (ap (λ (b : Bound). b.fewest) (at_index i none bounds)) was.begun in
    stand_put s place (unless_at i bounds) bounds ns i m new there same (at_other i none bounds) all
    (with_begun_stands s place (unless_at i bounds i) (bounds i) (map point ns) m new same events passed edges (added had) (λ t. inl has) was)
