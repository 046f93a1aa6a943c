use Rattle.std.proofs.Common.{◌≡◌, ◌+◌, ◌≤◌, ◌∙◌, ◌++◌, ◌∷◌, [], ap, ap₂, arith, length, length-append, map, refl, slice_get, Some, subst}
use Rattle.std.proofs.lemmas.List.{length-set}
use Rattle.schedules.specs.Families.{spot}
use Rattle.schedules.specs.Schedules.{event_of}
use Rattle.counting.specs.Tallies.{both}
use Rattle.merging.specs.Merging.{Point, event_put, goes_on_tally, kind_at, left_at, loose_of, most_of, outlook_of, past_of, point}
use Rattle.merging.proofs.IndexLemmas.{same_there}
use Rattle.merging.proofs.LayerLemmas.{filled_tallies}
use Rattle.merging.proofs.NodeLemmas.{with_begun}
use Rattle.merging.proofs.PutLemmas.{led_there, node_within, put_can, put_tally_at, there_of}
use Rattle.merging.proofs.spreading.put.Goals.{In_ok-with}
use Rattle.merging.proofs.spreading.put.Goals as goal

-- The kind of the insertion, from the point of the node.
kind : (c : In_ok-with) (p : Point) → slice_get (map point c.args.here.now.nodes.items) c.args.index ≡ Some p → c.kind-kind.result ≡ kind_at c.args.which p.left
kind c p at = c.kind-kind.ensures ∙ ap (λ (q : Point). kind_at c.args.which q.left) (there_of c.args.here.now.nodes.items c.args.index p c.index.result.now at c.index.ensures).1

event : (c : In_ok-with) (p : Point) → slice_get (map point c.args.here.now.nodes.items) c.args.index ≡ Some p → c.event_of-event.result ≡ event_put c.args.search.now c.args.which p
event c p at = c.event_of-event.ensures ∙ ap (event_of (loose_of c.args.search.now)) (c.from.ensures ∙ kind c p at)

pub lead-requires : goal.lead-requires
lead-requires c = record { node = (c.args.place, c.requires); event = event (goal.at.lead-requires c).In_ok-with }

pub index_mut-requires : goal.index_mut-requires
index_mut-requires c =
    let r = c.requires in
    let leads = (c.in_ok-to.ensures.stand c.args.place r.0 r.1 r.2).1 in
    let within = node_within c.lead.new.here.nodes.items c.in_ok-to.to leads.0 leads.1 in
    omega (arith, within, c.lead.new.here.nodes.ok.0)

pub returns : goal.returns
returns c =
    let s = c.args.search.now in
    let place = c.args.place in
    let ns = c.args.here.now.nodes.items in
    let ms = c.lead.new.here.nodes.items in
    let i = c.args.index in
    let which = c.args.which in
    let b = c.args.begun.now in
    let with = c.in_ok-with.with in
    let w = c.in_ok-with.ensures in
    let to = c.in_ok-to.to in
    let led = c.in_ok-to.ensures in
    let m = c.index_mut.result.now in
    let new = record m { begun = c.add.new.self } in
    let added = c.in_ok-add.ensures in
    let r = c.requires in
    let context = (goal.at.returns c).In_ok-with in
    record {
      stand = λ bounds p can.
          let now = led.stand place bounds p can in
          let it = led_there s ms p which to m now.1 c.index_mut.ensures.value in
          let room = subst (λ (q : Point). length b.spots + 1 + length (left_at which q.left) ≤ most_of s) (same_there (map point ns) i r.1 p r.2.at can.at) r.4 in
          let begun = with_begun s place which c.spot.result p (point m) b with can.begun it.1 room w.count w.spots (w.given ∙ ap (λ x. b.given ++ x ∷ []) (event context p can.at)) in
          let lower = can.fewest to in
          let more : (bounds to).fewest ≤ length with.spots = omega (arith, lower, ap length w.spots, length-append b.spots (c.spot.result ∷ [])) in
          put_can s place bounds ms i to p b m new now.0 can.fewest it.0 refl refl refl refl (λ had. added.all s place (bounds to).fewest (point m) had more begun) added.some;
      tally = λ has bounds p can.
          let it = led_there s ms p which to m (led.stand place bounds p can).1 c.index_mut.ensures.value in
          filled_tallies (outlook_of has s place) (past_of has s place) (most_of s) ms to m new (goes_on_tally has s place (point m) with) it.0 refl refl (added.tally (outlook_of has s place) (most_of s) (point m))
          ∙ ap₂ both (led.tally has place)
          (put_tally_at has s place which c.spot.result p (point m) b with it.1 (c.spot.ensures ∙ ap (spot (length (loose_of s)) place) (kind context p can.at)) w.count w.spots);
      grow = let grown = led.grow in omega (arith, grown, length-set ms to new);
    }
