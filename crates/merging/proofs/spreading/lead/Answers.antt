use Rattle.std.proofs.Common.{◌∙◌, [], append-nil, ap, arith, map, refl, slice_get, sym}
use Rattle.std.proofs.lemmas.List.{length-set}
use Rattle.merging.specs.Merging.{most_of, outlook_of, past_of, point, point_put, unless_at}
use Rattle.merging.proofs.IndexLemmas.{map_there, still_there}
use Rattle.merging.proofs.LayerLemmas.{all_worlds, found_stand}
use Rattle.merging.proofs.OneLemmas.{alike_swapped, alike_then}
use Rattle.merging.proofs.PutLemmas.{edge_put, edge_tallies, grown_length, led, node_within, put_point, still_can}
use Rattle.merging.proofs.spreading.lead.Goals as goal

pub returns-in-Some : goal.returns-in-Some
returns-in-Some c =
    let s = c.args.search.now in
    let ns = c.args.here.now.nodes.items in
    let i = c.args.index in
    let b = c.args.begun.now in
    let to = c.in-Some.to in
    record {
      stand = λ place bounds p can. (
        still_can s place bounds ns ns i to p b can ([], sym (append-nil (map point ns))) (found_stand s place bounds ns ns to refl can.stand),
        led s place bounds ns i p b c.index.result.now c.args.which to can c.index.ensures (sym c.in-Some.ensures),
      );
      tally = λ has place. refl;
      grow = omega arith;
    }

pub locate-requires-clause-worlds : goal.locate-requires-clause-worlds
locate-requires-clause-worlds c =
    let s = c.args.search.now in
    let place = c.requires.node.0 in
    let r = c.requires.node.1 in
    let ns = c.args.here.now.nodes.items in
    let node = c.in_ok-node.node in
    let e = c.in_ok-node.ensures in
    let at = put_point s place r.0 ns c.args.index c.args.which r.1 c.args.begun.now c.index-2.result.now node c.args.event r.2 c.index-2.ensures (c.requires.event r.1 r.2.at) e.state e.left e.marks e.regular e.settled in
    all_worlds s place r.0 (map point ns) ns node r.2.stand at.0

pub index_mut-requires : goal.index_mut-requires
index_mut-requires c =
    let ns = c.args.here.now.nodes.items in
    let r = c.requires.node.1 in
    let within = node_within ns c.args.index r.1 r.2.at in
    let grown = grown_length ns c.locate.new.self.nodes.items c.in_ok-to.ensures.points in
    omega (arith, within, grown, c.locate.new.self.nodes.ok.0)

pub returns : goal.returns
returns c =
    let s = c.args.search.now in
    let ns = c.args.here.now.nodes.items in
    let ms = c.locate.new.self.nodes.items in
    let i = c.args.index in
    let which = c.args.which in
    let b = c.args.begun.now in
    let node = c.in_ok-node.node in
    let to = c.in_ok-to.to in
    let m = c.index_mut.result.now in
    let new = c.set_edge.new.self in
    let r = c.requires.node.1 in
    let e = c.in_ok-node.ensures in
    let it = c.in_ok-to.ensures in
    let set = c.in_ok-set_edge.ensures in
    let grown = grown_length ns ms it.points in
    record {
      stand = λ place bounds p can.
          let at = put_point s place bounds ns i which p b c.index-2.result.now node c.args.event can c.index-2.ensures (c.requires.event p can.at) e.state e.left e.marks e.regular e.settled in
          let long = can.begun.given in
          let room = r.4 in
          let all = it.stand s place bounds can.stand at.0 (omega (arith, e.events, long, room)) in
          edge_put s place (unless_at to bounds) ms i p b m new which to (still_can s place bounds ns ms i to p b can it.points all) c.index_mut.ensures.value set.rest set.edges
          (point it.one.0, map_there point ms to it.one.0 it.one.1, alike_then (point_put s which p) (point node) (point it.one.0) at.1 (alike_swapped (point it.one.0) (point node) it.one.2));
      tally = λ has place.
          edge_tallies has s place ms i r.1 m new (ap (λ ps. slice_get ps i) it.points.1 ∙ still_there (map point ns) it.points.0 i r.1 r.2.at) c.index_mut.ensures.value set.rest
          ∙ it.tally (outlook_of has s place) (past_of has s place) (most_of s);
      grow = omega (arith, grown, length-set ms i new);
    }
