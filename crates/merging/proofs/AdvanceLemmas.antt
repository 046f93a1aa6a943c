-- Beginnings that are taken from a node, and pass.
use Rattle.std.proofs.Common.{◌≡◌, ℕ, ◌+◌, ◌<◌, ◌≤◌, inr, ◌⊎◌, Bool, true, false, List, map, Some, ap, ap₂, sym, subst, ◌∙◌, arith, get_or, slice_get, slice_set}
use Rattle.std.proofs.lemmas.Option.{slice_get-get_or}
use Rattle.posix.specs.declared.event.Event.TheVariants.{Tick}
use Rattle.counting.specs.Tallies.{TallyView, both}
use Rattle.merging.specs.declared.begun.Begun.{Begun}
use Rattle.merging.specs.declared.node.Node.{Node}
use Rattle.merging.specs.declared.search.Search.{Search}
use Rattle.merging.specs.Merging.{AllBegun, AllStand, AreBegun, Bound, CanGoOn, HasSome, IsPoint, LeadsTo, Point, Property, StandsAt, bound_at, edge_at, goes_on_tally, list_of, loose_tally, most_of, nodes_tally, outlook_of, past_of, past_tally, point, seen, slots_tally, tick_tally}
use Rattle.merging.proofs.LayerLemmas.{at_index, at_other, stand_put, tallies_put, with_begun_stands}
use Rattle.merging.proofs.PutLemmas.{there_of}
use Rattle.merging.proofs.SpreadLemmas.{begun_parts}
use Rattle.merging.proofs.TallyLemmas.{both_regrouped}

-- ---- beginnings are taken from a node

-- The node with this index has no beginnings with this many spots or fewer that can go on, and need not have others.
abbrev pub taken : ℕ → ℕ → (ℕ → Bound) → ℕ → Bound
taken spots i bounds = bound_at i (record { fewest = spots + 1; some = false }) bounds

-- The node keeps some of its beginnings that can go on.
pub taken_stand : (s : Search) (place : ℕ) (bound : Bound) (bounds : ℕ → Bound) (ns : List Node) (i : ℕ) (n new : Node) → slice_get ns i ≡ Some n → point new ≡ point n → new.kernel.events ≡ n.kernel.events → new.passed ≡ n.passed
    → new.edges.items ≡ n.edges.items → AllBegun s place bound.fewest (point n) new.begun → (bound.some ≡ true → HasSome new.begun ⊎ HasSome new.passed) → AllStand s place bounds (map point ns) ns
    → AllStand s place (bound_at i bound bounds) (map point (slice_set ns i new)) (slice_set ns i new)
taken_stand s place bound bounds ns i n new there same events passed edges begun has stand =
    stand_put s place bounds (bound_at i bound bounds) ns i n new there same (λ j apart. sym (at_other i bound bounds j apart)) stand
    (subst (λ b. StandsAt s place b (map point ns) (seen new)) (sym (at_index i bound bounds))
    (with_begun_stands s place (bounds i) bound (map point ns) n new same events passed edges begun has (stand i n there)))

-- ---- they have passed

-- The node has beginnings again: some that have passed.
pub passed_stand : (s : Search) (place spots : ℕ) (some : Bool) (bounds : ℕ → Bound) (ns : List Node) (i : ℕ) (p : Point) (b : Begun) (n new : Node) → CanGoOn s place (taken spots i bounds) ns i p b → n ≡ get_or ns i n
    → point new ≡ point n → new.kernel.events ≡ n.kernel.events → new.begun ≡ n.begun → new.edges.items ≡ n.edges.items
    → (AllBegun s place 0 (point n) n.passed → AreBegun s place (point n) b → AllBegun s place 0 (point n) new.passed) → HasSome new.passed
    → AllStand s place (bound_at i (record { fewest = spots + 1; some = some }) bounds) (map point (slice_set ns i new)) (slice_set ns i new)
passed_stand s place spots some bounds ns i p b n new can is same events begun edges added has =
    let old : Bound = record { fewest = spots + 1; some = false } in
    let bound : Bound = record { fewest = spots + 1; some = some } in
    let there = there_of ns i p n can.at is in
    let was = subst (λ x. StandsAt s place x (map point ns) (seen n)) (at_index i old bounds) (can.stand i n there.0) in
    stand_put s place (taken spots i bounds) (bound_at i bound bounds) ns i n new there.0 same
    (λ j apart. at_other i old bounds j apart ∙ sym (at_other i bound bounds j apart)) can.stand
    (subst (λ x. StandsAt s place x (map point ns) (seen new)) (sym (at_index i bound bounds)) (record {
      point = subst (IsPoint s place) (sym same) was.point;
      events = subst (λ k. k ≤ place + most_of s) (sym events) was.events;
      begun = subst (λ q. AllBegun s place (spots + 1) q new.begun) (sym same) (subst (AllBegun s place (spots + 1) (point n)) (sym begun) was.begun);
      passed = subst (λ q. AllBegun s place 0 q new.passed) (sym same) (added was.passed (subst (λ q. AreBegun s place q b) (sym there.1) can.begun));
      some = λ t. inr has;
      leads = λ which k led. subst (λ q. LeadsTo s (map point ns) q which k) (sym same) (was.leads which k (ap (λ es. edge_at es which) (sym edges) ∙ led));
    }))

pub passed_tallies : (has : Property) (s : Search) (place : ℕ) (ns : List Node) (i : ℕ) (p : Point) (b : Begun) (n new : Node) → slice_get (map point ns) i ≡ Some p → n ≡ get_or ns i n → point new ≡ point n → new.begun ≡ n.begun
    → slots_tally (past_of has s place) (most_of s) (point n) new.passed ≡ both (slots_tally (past_of has s place) (most_of s) (point n) n.passed) (past_tally has s place (point n) b)
    → nodes_tally has s place (slice_set ns i new) ≡ both (nodes_tally has s place ns) (past_tally has s place p b)
passed_tallies has s place ns i p b n new at is same begun added =
    let go_on = outlook_of has s place in
    let past = past_of has s place in
    let most = most_of s in
    let there = there_of ns i p n at is in
    let q = slots_tally go_on most (point n) n.begun in
    let r = slots_tally past most (point n) n.passed in
    tallies_put ns i n new go_on past most (past_tally has s place p b) there.0
    (ap₂ (λ x bs. both (slots_tally go_on most x bs) (slots_tally past most x new.passed)) same begun
    ∙ ap (both q) added
    ∙ sym (both_regrouped q r (past_tally has s place (point n) b))
    ∙ ap (λ x. both (both q r) (past_tally has s place x b)) there.1)

-- All schedules of the beginnings are there again.
pub all_there : (has : Property) (s : Search) (place : ℕ) (p : Point) (b : Begun) (rest whole : TallyView) → AreBegun s place p b → place < s.family.now.upto → whole ≡ both rest (goes_on_tally has s place p b)
    → both (both rest (both (tick_tally has s place p b) (loose_tally has s place p b))) (past_tally has s place p b) ≡ whole
all_there has s place p b rest whole begun below is =
    both_regrouped rest (both (tick_tally has s place p b) (loose_tally has s place p b)) (past_tally has s place p b)
    ∙ ap (both rest) (sym (begun_parts has s place (get_or (list_of s) place Tick) p b begun below (slice_get-get_or (list_of s) place Tick (omega (arith, below, s.family.now.within)))))
    ∙ sym is
