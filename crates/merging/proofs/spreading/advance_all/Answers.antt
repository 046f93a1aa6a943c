use Rattle.std.proofs.Common.{◌+◌, ◌∙◌, arith, map, refl, sym}
use Rattle.merging.specs.Merging.{from_spots, nodes_tally, point, without_spots}
use Rattle.counting.specs.Tallies.{no_schedules}
use Rattle.merging.proofs.LayerLemmas.{stand_weaker}
use Rattle.merging.proofs.LevelLemmas.{advanced, advanced_most, advanced_more, all_advanced, not_advanced}
use Rattle.merging.proofs.StopLemmas.{too_many}
use Rattle.merging.proofs.TallyLemmas.{and_none}
use Rattle.merging.proofs.spreading.advance_all.Goals as goal

pub loop-index-init : goal.loop-index-init
loop-index-init c =
    let spots = c.args.spots in
    let count = c.len-index-end.result in
    let nodes = c.args.here.now.nodes.items in
    record {
      grown = omega (arith, c.len-index-end.ensures);
      stand = stand_weaker c.args.search.now c.args.place (from_spots spots) (advanced spots 0 count) (map point nodes) nodes
          (λ j within. let is = not_advanced spots 0 count j (omega arith) (omega (arith, within, c.len-index-end.ensures)) in (omega (arith, is), λ some. refl))
          c.requires.nodes;
      tally = λ has. refl;
    }

pub returns-then-len-most-clause-stop : goal.returns-then-len-most-clause-stop
returns-then-len-most-clause-stop c =
    let s = c.args.search.now in
    let nodes = c.loop-index.here.nodes.items in
    too_many s c.args.place (λ has. nodes_tally has s c.args.place c.args.here.now.nodes.items) (λ has. no_schedules) nodes
    (omega (arith, c.requires.place))
    (omega (arith, c.if-len-most.true, c.len.ensures))
    (stand_weaker s c.args.place (advanced c.args.spots c.loop-index.index c.len-index-end.result) (from_spots 0) (map point nodes) nodes (λ j within. (omega arith, λ some. refl)) c.loop-index.invariant.stand)
    (λ has. sym (c.loop-index.invariant.tally has) ∙ sym (and_none (nodes_tally has s c.args.place nodes)))

pub advance-requires-clause-nodes : goal.advance-requires-clause-nodes
advance-requires-clause-nodes c =
    let spots = c.args.spots in
    let index = c.loop-index.index in
    let count = c.len-index-end.result in (
      advanced spots index count,
      c.loop-index.invariant.stand,
      not_advanced spots index count index (omega arith) c.loop-index-test.true,
      advanced_most spots index count,
    )

pub loop-index-preserved : goal.loop-index-preserved
loop-index-preserved c =
    let spots = c.args.spots in
    let index = c.loop-index.index in
    let count = c.len-index-end.result in
    let nodes = c.advance.new.here.nodes.items in
    let l = c.loop-index.invariant in
    let e = c.in_ok-advance.ensures in
    let old = advanced spots index count in
    record {
      grown = omega (arith, l.grown, e.grow);
      stand = stand_weaker c.args.search.now c.args.place (without_spots spots index old) (advanced spots (index + 1) count) (map point nodes) nodes (λ j within. (advanced_more spots index count j, grind arith))
          (e.stand old l.stand (not_advanced spots index count index (omega arith) c.loop-index-test.true) (advanced_most spots index count));
      tally = λ has. e.tally has ∙ l.tally has;
    }

pub returns-clause-nodes : goal.returns-clause-nodes
returns-clause-nodes c =
    let spots = c.args.spots in
    let index = c.loop-index.index in
    let count = c.len-index-end.result in
    let nodes = c.loop-index.here.nodes.items in
    stand_weaker c.args.search.now c.args.place (advanced spots index count) (from_spots (spots + 1)) (map point nodes) nodes
    (λ j within. let is = all_advanced spots index count j c.loop-index-test.false in (omega (arith, is), λ some. refl))
    c.loop-index.invariant.stand
