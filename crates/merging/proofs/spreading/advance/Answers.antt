use Rattle.std.proofs.Common.{◌≡◌, ◌+◌, ◌≤◌, ◌⊎◌, ◌∙◌, ℕ, false, ap, arith, length, length-set, map, refl, slice_set, subst, sym, true≢false}
use Rattle.std.proofs.lemmas.Option.{slice_get_read}
use Rattle.counting.specs.Tallies.{both}
use Rattle.merging.specs.Merging.{AllBegun, AllStand, Bound, CanGoOn, HasSome, bound_at, most_of, outlook_of, past_of, past_tally, point}
use Rattle.merging.proofs.AdvanceLemmas.{all_there, passed_stand, passed_tallies, taken, taken_stand}
use Rattle.merging.proofs.IndexLemmas.{map_there, put_there}
use Rattle.merging.proofs.LayerLemmas.{at_most, node_more, tallies_taken}
use Rattle.merging.proofs.spreading.advance.Goals.{In-Some}
use Rattle.merging.proofs.spreading.advance.Goals as goal

pub returns-in_default-clause-stand : goal.returns-in_default-clause-stand
returns-in_default-clause-stand c = λ bounds all is lower.
    let s = c.args.search.now in
    let place = c.args.place in
    let spots = c.args.spots in
    let i = c.args.index in
    let ns = c.args.here.now.nodes.items in
    let n = c.index_mut.result.now in
    let there = slice_get_read ns (length ns) i n refl c.requires.index c.index_mut.ensures.value in
    let was = all i n there in
    let had = subst (λ k. AllBegun s place k (point n) n.begun) is was.begun in
    let none = c.in_default.ensures.none refl in
    taken_stand s place (record { fewest = spots + 1; some = (bounds i).some }) bounds ns i n (record n { begun = c.take.new.self }) there refl refl refl refl (c.in_default.ensures.all s place (point n) had).0
    (λ t. subst (λ bs. HasSome bs ⊎ HasSome n.passed) (sym none) (was.some t)) all

-- The beginnings that were taken can go on.
can_go_on : (c : In-Some) (bounds : ℕ → Bound) → AllStand c.args.search.now c.args.place bounds (map point c.args.here.now.nodes.items) c.args.here.now.nodes.items → (bounds c.args.index).fewest ≡ c.args.spots → ((j : ℕ) → (bounds j).fewest ≤ c.args.spots + 1)
    → CanGoOn c.args.search.now c.args.place (taken c.args.spots c.args.index bounds) (slice_set c.args.here.now.nodes.items c.args.index (record c.index_mut.result.now { begun = c.take.new.self })) c.args.index (point c.index_mut.result.now) c.in-Some.begun
can_go_on c bounds all is lower =
    let s = c.args.search.now in
    let place = c.args.place in
    let spots = c.args.spots in
    let i = c.args.index in
    let ns = c.args.here.now.nodes.items in
    let n = c.index_mut.result.now in
    let new = record n { begun = c.take.new.self } in
    let bound : Bound = record { fewest = spots + 1; some = false } in
    let there = slice_get_read ns (length ns) i n refl c.requires.index c.index_mut.ensures.value in
    let had = subst (λ k. AllBegun s place k (point n) n.begun) is (all i n there).begun in
    let it = c.in-Some.ensures.all s place (point n) had in
    record {
      before = c.requires.place;
      at = map_there point _ i new (put_there ns i new c.requires.index);
      begun = it.1;
      stand = taken_stand s place bound bounds ns i n new there refl refl refl refl it.0 (λ t. absurd (true≢false (sym t))) all;
      fewest = subst (λ k. (j : ℕ) → (bound_at i bound bounds j).fewest ≤ k + 1) (sym c.in-Some.ensures.spots) (at_most i (spots + 1) bound bounds (omega arith) lower);
    }

pub put_all-requires : goal.put_all-requires
put_all-requires c =
    let r = c.requires.nodes in
    (taken c.args.spots c.args.index r.0, point c.index_mut.result.now, can_go_on (goal.at.put_all-requires c).In-Some r.0 r.1 r.2 r.3)

pub returns : goal.returns
returns c =
    let s = c.args.search.now in
    let place = c.args.place in
    let spots = c.args.spots in
    let i = c.args.index in
    let ns = c.args.here.now.nodes.items in
    let ms = c.put_all.new.here.nodes.items in
    let n = c.index_mut.result.now in
    let p = point n in
    let b = c.in-Some.begun in
    let put = c.in_ok-put_all.ensures in
    let m = c.index_mut-2.result.now in
    let new = record m { passed = c.add.new.self } in
    let added = c.in_ok-add.ensures in
    let can = can_go_on (goal.at.returns c).In-Some in
    record {
      stand = λ bounds all is lower.
          passed_stand s place spots (bounds i).some bounds ms i p b m new (put.stand (taken spots i bounds) p (can bounds all is lower)) c.index_mut-2.ensures.value refl refl refl refl
          (λ was begun. added.all s place 0 (point m) was (omega arith) begun) added.some;
      tally = λ has.
          let r = c.requires.nodes in
          let now = can r.0 r.1 r.2 r.3 in
          let go_on = outlook_of has s place in
          let past = past_of has s place in
          let most = most_of s in
          let old = record n { begun = c.take.new.self } in
          let there = slice_get_read ns (length ns) i n refl c.requires.index c.index_mut.ensures.value in
          passed_tallies has s place ms i p b m new (put.stand (taken spots i r.0) p now).at c.index_mut-2.ensures.value refl refl (added.tally past most (point m))
          ∙ ap (λ t. both t (past_tally has s place p b)) (put.tally has (taken spots i r.0) p now)
          ∙ all_there has s place p b _ _ now.begun c.requires.place
          (tallies_taken ns i n old go_on past most _ there (node_more old n go_on past most _ refl refl (c.in-Some.ensures.tally go_on most p)));
      grow = let grown = put.grow in omega (arith, grown, length-set ns i (record n { begun = c.take.new.self }), length-set ms i new);
    }
