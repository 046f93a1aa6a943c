use Rattle.std.proofs.Common.{◌+◌, ◌∙◌, ap, arith, map, subst, sym}
use Rattle.counting.specs.Tallies.{both}
use Rattle.merging.specs.Merging.{from_spots, most_of, nodes_tally, outlook_of, past_of, point}
use Rattle.merging.specs.Slots.{AreShort, given_slot}
use Rattle.merging.proofs.GiveLemmas.{HasGiven, has_given, late_tally, passed_short}
use Rattle.merging.proofs.LayerLemmas.{all_worlds}
use Rattle.merging.proofs.OneLemmas.{outlook_forgets}
use Rattle.merging.proofs.spreading.give_to.Goals.{In-Ok}
use Rattle.merging.proofs.spreading.give_to.Goals as goal

pub returns-then-is_late-clause-tally : goal.returns-then-is_late-clause-tally
returns-then-is_late-clause-tally c = λ has.
    let s = c.args.search.now in
    let late = c.is_late.ensures.late c.if-is_late.true in
    late_tally has s c.args.place c.requires.node.0 c.args.node (nodes_tally has s (c.args.place + 1) c.args.next.now.nodes.items) c.requires.node.1 late.0 late.1

pub give-requires-2 : goal.give-requires-2
give-requires-2 c =
    subst AreShort (sym (c.take_passed-begun.ensures.begun ∙ c.in_default.ensures.passed)) (passed_short c.args.search.now c.args.place c.requires.node.0 c.args.node c.requires.place c.requires.node.1)

-- The node after the event.
given : (c : In-Ok) → HasGiven c.args.search.now c.args.place c.args.node c.take_passed-begun.new.self c.give-2.new.self
given c =
    let s = c.args.search.now in
    let x = c.args.event in
    let e = c.in_default.ensures in
    let r = c.take_passed-begun.ensures in
    has_given s c.args.place x c.requires.node.0 c.args.node c.give.new.self c.take_passed-begun.new.self c.give-2.new.self c.requires.event c.requires.node.1 (c.is_late.ensures.in_time c.if-is_late.false) e.state
    (ap (λ k. k.items) e.left) e.marks e.regular e.settled e.events r.point r.events (c.in-Ok.ensures ∙ ap (map (given_slot x)) (r.begun ∙ e.passed))

pub insert-requires-clause-worlds : goal.insert-requires-clause-worlds
insert-requires-clause-worlds c =
    let next = c.args.next.now.nodes.items in
    all_worlds c.args.search.now (c.args.place + 1) (from_spots 0) (map point next) next c.take_passed-begun.new.self c.requires.next (given (goal.at.insert-requires-clause-worlds c).In-Ok).at

pub returns-in_ok-insert-in-Ok-clause-nodes : goal.returns-in_ok-insert-in-Ok-clause-nodes
returns-in_ok-insert-in-Ok-clause-nodes c =
    let g = given (goal.at.returns-in_ok-insert-in-Ok-clause-nodes c).In-Ok in
    c.in_ok-insert-in-Ok.ensures.stand c.args.search.now (c.args.place + 1) 0 (from_spots 0) c.requires.next g.at g.events (λ i. omega arith) g.begun g.some

pub returns-in_ok-insert-in-Ok-clause-tally : goal.returns-in_ok-insert-in-Ok-clause-tally
returns-in_ok-insert-in-Ok-clause-tally c = λ has.
    let s = c.args.search.now in
    let later = c.args.place + 1 in
    c.in_ok-insert-in-Ok.ensures.tally (outlook_of has s later) (past_of has s later) (most_of s) (outlook_forgets has s later)
    ∙ ap (both (nodes_tally has s later c.args.next.now.nodes.items)) ((given (goal.at.returns-in_ok-insert-in-Ok-clause-tally c).In-Ok).tally has)
