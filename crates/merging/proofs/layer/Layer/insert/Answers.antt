use Rattle.std.proofs.Common.{◌∙◌, ap₂, map, refl}
use Rattle.std.proofs.lemmas.Option.{slice_get_within}
use Rattle.counting.specs.Tallies.{both}
use Rattle.merging.specs.Merging.{point, slots_tally}
use Rattle.merging.proofs.IndexLemmas.{put_there, read_there}
use Rattle.merging.proofs.LayerLemmas.{fewer_begun, filled_points, filled_stand, filled_tallies, passed_put, there_alike}
use Rattle.merging.proofs.OneLemmas.{all_begun_alike, alike_swapped, slots_alike}
use Rattle.merging.proofs.layer.Layer.insert.Goals as goal

pub returns : goal.returns
returns c =
    let ns = c.locate.new.self.nodes.items in
    let i = c.in_ok-index.index in
    let m = c.index_mut.result.now in
    let new = record m { begun = c.add_all.new.self } in
    let p = point c.args.node in
    let bs = c.args.begun in
    let located = c.in_ok-index.ensures in
    let added = c.in_ok-add_all.ensures in
    let it = located.one in
    let there = read_there ns i it.0 m it.1 c.index_mut.ensures.value in
    let alike = there_alike ns i it.0 m p it.1 there it.2 in
    record {
      one = (new, put_there ns i new (slice_get_within ns i m there), alike);
      points = filled_points (map point c.args.self.now.nodes.items) ns i m new there refl located.points;
      tally = λ go_on past most forgets.
          filled_tallies go_on past most ns i m new (slots_tally go_on most (point m) bs) there refl refl (added.tally go_on most (point m))
          ∙ ap₂ both (located.tally go_on past most) (slots_alike go_on most (point m) p bs forgets alike);
      stand = λ s place fewest bounds all at few lower begun has.
          let come = all_begun_alike s place (bounds i).fewest p (point m) bs (alike_swapped (point m) p alike) (fewer_begun s place fewest (bounds i).fewest p bs (lower i) begun) in
          filled_stand s place bounds ns i m new there refl refl refl refl (λ had. added.all s place (bounds i).fewest (point m) had come) (added.some has) (located.stand s place bounds all at few);
      passed = λ none. let all = located.passed none in passed_put ns i new all (all i m there);
    }
