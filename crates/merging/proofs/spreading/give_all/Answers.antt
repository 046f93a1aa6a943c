use Rattle.std.proofs.Common.{◌≡◌, ◌+◌, ◌<◌, ◌∙◌, ap, arith, length, sym}
use Rattle.std.proofs.lemmas.List.{nil_from_length}
use Rattle.counting.specs.Tallies.{both}
use Rattle.merging.specs.Merging.{Property, nodes_tally}
use Rattle.merging.proofs.GiveLemmas.{popped_stand, popped_tallies}
use Rattle.merging.proofs.StopLemmas.{too_many}
use Rattle.merging.proofs.TallyLemmas.{and_none}
use Rattle.merging.proofs.spreading.give_all.Goals.{In_ok-give_to}
use Rattle.merging.proofs.spreading.give_all.Goals as goal

pub give_to-requires-clause-node : goal.give_to-requires-clause-node
give_to-requires-clause-node c =
    let l = c.loop-node in
    let nodes = l.invariant.nodes in
    (nodes.0, (popped_stand c.args.search.now c.args.place nodes.0 l.nodes.items c.pop.new.self.items c.in-Some.node c.in-Some.ensures.items nodes.1).1)

-- No schedule is lost.
still_all : (c : In_ok-give_to) (has : Property)
    → both (nodes_tally has c.args.search.now (c.args.place + 1) c.give_to.new.next.nodes.items) (nodes_tally has c.args.search.now c.args.place c.pop.new.self.items)
    ≡ nodes_tally has c.args.search.now c.args.place c.args.nodes.now.items
still_all c has =
    let s = c.args.search.now in
    let l = c.loop-node in
    popped_tallies has s c.args.place l.nodes.items c.pop.new.self.items c.in-Some.node (nodes_tally has s (c.args.place + 1) l.next.nodes.items) (nodes_tally has s (c.args.place + 1) c.give_to.new.next.nodes.items)
    c.in-Some.ensures.items (c.in_ok-give_to.ensures.tally has)
    ∙ l.invariant.tally has

pub returns-then-len-most-clause-stop : goal.returns-then-len-most-clause-stop
returns-then-len-most-clause-stop c =
    let s = c.args.search.now in
    let before = c.requires.place in
    let next = c.give_to.new.next.nodes in
    let many : s.family.now.states < length next.items = omega (arith, c.if-len-most.true, c.len.ensures, next.ok.0) in
    too_many s (c.args.place + 1) (λ has. nodes_tally has s c.args.place c.args.nodes.now.items) (λ has. nodes_tally has s c.args.place c.pop.new.self.items) next.items (omega (arith, before)) many
    c.in_ok-give_to.ensures.nodes (λ has. sym (still_all (goal.at.returns-then-len-most-clause-stop c).In_ok-give_to has))

pub loop-node-preserved : goal.loop-node-preserved
loop-node-preserved c =
    let l = c.loop-node in
    let nodes = l.invariant.nodes in
    let new = c.in_ok-give_to.ensures in
    record {
      nodes = (nodes.0, (popped_stand c.args.search.now c.args.place nodes.0 l.nodes.items c.pop.new.self.items c.in-Some.node c.in-Some.ensures.items nodes.1).0);
      next = new.nodes;
      passed = new.passed l.invariant.passed;
      tally = still_all (goal.at.loop-node-preserved c).In_ok-give_to;
    }

pub returns-clause-tally : goal.returns-clause-tally
returns-clause-tally c = λ has.
    let s = c.args.search.now in
    let l = c.loop-node in
    let next = nodes_tally has s (c.args.place + 1) l.next.nodes.items in
    let none = nil_from_length l.nodes.items (omega (arith, c.in_default.ensures.cases.0, l.nodes.ok.0)) in
    sym (and_none next) ∙ sym (ap (λ ns. both next (nodes_tally has s c.args.place ns)) none) ∙ l.invariant.tally has
