use Rattle.std.proofs.Common.{◌≡◌, ◌∙◌, ap, arith, subst, sym}
use Rattle.merging.specs.Merging.{AreNodes, nodes_tally}
use Rattle.merging.proofs.StopLemmas.{stops_too}
use Rattle.merging.proofs.merging.reach.Goals as goal

pub loop-place-preserved : goal.loop-place-preserved
loop-place-preserved g c = record {
  nodes = c.in_ok-layer.ensures.nodes;
  passed = c.in_ok-layer.ensures.passed;
  tally = λ has. c.in_ok-layer.ensures.tally has ∙ c.loop-place.invariant.tally has;
}

pub returns-in_err-layer-clause-stop : goal.returns-in_err-layer-clause-stop
returns-in_err-layer-clause-stop g c =
    stops_too c.args.search.now _ _ c.from_residual.result c.in_err-layer.field-0.0 c.from_residual.ensures.1 (λ has. sym (c.loop-place.invariant.tally has)) c.in_err-layer.ensures.stop

pub returns-clause-nodes : goal.returns-clause-nodes
returns-clause-nodes g c =
    let s = c.args.search.now in
    let end : c.loop-place.place ≡ s.family.now.upto = omega arith in
    subst (λ place. AreNodes s place 0 c.loop-place.layer.nodes.items) end c.loop-place.invariant.nodes

pub returns-clause-tally : goal.returns-clause-tally
returns-clause-tally g c = λ has.
    let s = c.args.search.now in
    let end : s.family.now.upto ≡ c.loop-place.place = omega arith in
    ap (λ place. nodes_tally has s place c.loop-place.layer.nodes.items) end ∙ c.loop-place.invariant.tally has
