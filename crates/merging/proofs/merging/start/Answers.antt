use Rattle.std.proofs.Common.{◌∙◌, ap, ap₂, arith}
use Rattle.counting.specs.Tallies.{both, no_schedules}
use Rattle.merging.specs.Merging.{begun_tally, from_spots, most_of, outlook_of, past_of, point, slots_tally, tally_of_nodes}
use Rattle.merging.proofs.MergedLemmas.{first_begun, first_point, first_tally}
use Rattle.merging.proofs.OneLemmas.{outlook_forgets}
use Rattle.merging.proofs.TallyLemmas.{none_and}
use Rattle.merging.proofs.merging.start.Goals as goal

pub returns-clause-nodes : goal.returns-clause-nodes
returns-clause-nodes c =
    let s = c.args.search.now in
    let e = c.in_ok-node.ensures in
    let p = point c.in_ok-node.node in
    let b = c.in_ok-first.field-0 in
    let f = c.in_ok-first.ensures in
    let a = c.in_ok-add.ensures in
    c.in_ok-insert.ensures.stand s 0 0 (from_spots 0) (rw c.new-layer.ensures (λ i n at. cc))
    (first_point s p e.state e.regular e.settled e.left e.marks)
    (omega (arith, e.events))
    (λ i. omega arith)
    (a.all s 0 0 p (rw c.new-begun.ensures (λ k x at. cc)) (omega arith) (first_begun s p b e.state e.left f.count f.spots f.given))
    a.some

pub returns-clause-passed : goal.returns-clause-passed
returns-clause-passed c = c.in_ok-insert.ensures.passed (rw c.new-layer.ensures (λ i n at. cc))

pub returns-clause-tally : goal.returns-clause-tally
returns-clause-tally c = λ has.
    let s = c.args.search.now in
    let e = c.in_ok-node.ensures in
    let p = point c.in_ok-node.node in
    let b = c.in_ok-first.field-0 in
    let f = c.in_ok-first.ensures in
    let go_on = outlook_of has s 0 in
    let past = past_of has s 0 in
    let most = most_of s in
    let all = begun_tally go_on most p b in
    c.in_ok-insert.ensures.tally go_on past most (outlook_forgets has s 0)
    ∙ ap₂ both (ap (tally_of_nodes go_on past most) c.new-layer.ensures) (c.in_ok-add.ensures.tally go_on most p ∙ ap (λ bs. both (slots_tally go_on most p bs) all) c.new-begun.ensures)
    ∙ none_and (both no_schedules all)
    ∙ none_and all
    ∙ first_tally has s p b e.state e.left e.marks f.count f.spots
