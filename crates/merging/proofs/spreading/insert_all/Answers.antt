use Rattle.std.proofs.Common.{◌+◌, ◌∙◌, arith, map, refl, sym}
use Rattle.merging.specs.Merging.{from_spots, most_of, point}
use Rattle.merging.proofs.LayerLemmas.{stand_weaker}
use Rattle.merging.proofs.StopLemmas.{stops_too}
use Rattle.merging.proofs.spreading.insert_all.Goals as goal

pub returns-in_err-advance_all-clause-stop : goal.returns-in_err-advance_all-clause-stop
returns-in_err-advance_all-clause-stop c =
    stops_too c.args.search.now _ _ c.from_residual.result c.in_err-advance_all.field-0.0 c.from_residual.ensures.1 (λ has. sym (c.loop-spots.invariant.tally has)) c.in_err-advance_all.ensures.stop

pub loop-spots-preserved : goal.loop-spots-preserved
loop-spots-preserved c = record {
  nodes = c.in_ok-advance_all.ensures.nodes;
  tally = λ has. c.in_ok-advance_all.ensures.tally has ∙ c.loop-spots.invariant.tally has;
}

pub returns-clause-nodes : goal.returns-clause-nodes
returns-clause-nodes c =
    let nodes = c.loop-spots.here.nodes.items in
    stand_weaker c.args.search.now c.args.place (from_spots c.loop-spots.spots) (from_spots (most_of c.args.search.now + 1)) (map point nodes) nodes
    (λ j within. (omega (arith, c.loop-spots-test.false), λ some. refl))
    c.loop-spots.invariant.nodes
