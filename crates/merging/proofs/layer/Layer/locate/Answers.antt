use Rattle.std.proofs.Common.{◌+◌, ◌≤◌, ◌∙◌, [], ◌∷◌, append-nil, map, slice_get, sym, ap, subst}
use Rattle.merging.specs.Merging.{AllStand, AreAlike, IsFresh, IsPoint, NonePassed, SeenNode, most_of, point, unless_at}
use Rattle.merging.proofs.LayerLemmas.{found_stand, passed_push, passed_same, points_same, pushed_points, pushed_stand, pushed_tallies, pushed_there, tallies_same}
use Rattle.merging.proofs.OneLemmas.{alike_refl}
use Rattle.merging.proofs.layer.Layer.locate.Goals as goal

pub returns-in-Ok : goal.returns-in-Ok
returns-in-Ok c =
    let olds = c.args.self.now.nodes.items in
    let ns = c.find.new.self.nodes.items in
    let it = c.in-Ok.ensures.one in
    let same = c.find.ensures.node ∙ c.digest-digest.ensures in
    let all = c.find.ensures.nodes in
    record {
      one = (it.0, it.1, subst (AreAlike (point it.0)) (ap (λ (v : SeenNode). v.point) same) it.2);
      points = ([], points_same olds ns all ∙ sym (append-nil (map point olds)));
      tally = λ go_on past most. tallies_same olds ns go_on past most all;
      stand = λ s place bounds stand at few. found_stand s place bounds olds ns c.in-Ok.index all stand;
      passed = passed_same olds ns all;
    }

pub returns-in_ok-index-in-Err : goal.returns-in_ok-index-in-Err
returns-in_ok-index-in-Err c =
    let olds = c.args.self.now.nodes.items in
    let ns = c.find.new.self.nodes.items in
    let xs = c.push.new.self.nodes.items in
    let n = c.find.new.node in
    let is = c.in_ok-index-in-Err.ensures.0 in
    let at_end = c.in_ok-index-in-Err.ensures.1 in
    let all = c.find.ensures.nodes in
    let same = c.find.ensures.node ∙ c.digest-digest.ensures in
    let fresh = subst IsFresh (sym same) c.requires.fresh in
    record {
      one = (n, ap (slice_get xs) at_end ∙ pushed_there ns xs n is, subst (AreAlike (point n)) (ap (λ (v : SeenNode). v.point) same) (alike_refl (point n)));
      points = (point n ∷ [], pushed_points olds ns xs n all is);
      tally = λ go_on past most. pushed_tallies go_on past most olds ns xs n all is fresh;
      stand = λ s place bounds stand at few.
          subst (λ i. AllStand s place (unless_at i bounds) (map point xs) xs) (sym at_end)
          (pushed_stand s place bounds olds ns xs n all is fresh stand (subst (λ (v : SeenNode). IsPoint s place v.point) (sym same) at)
          (subst (λ (v : SeenNode). v.events ≤ place + most_of s) (sym same) few));
      passed = λ none. subst NonePassed (sym is) (passed_push ns n (passed_same olds ns all none) (ap (λ (v : SeenNode). v.passed) same ∙ c.requires.fresh.passed));
    }
