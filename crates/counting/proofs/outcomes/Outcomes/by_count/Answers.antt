use Rattle.std.proofs.Common.{◌∙◌, ap, Ok}
use Rattle.std.proofs.lemmas.Iterator.{YieldsList-from_slice}
use Rattle.std.proofs.lemmas.Iterator.Consumers.{map_from_collect}
use Rattle.std.proofs.lemmas.List.Sorted.{IsPermutation-map, sum_by-IsPermutation}
use Rattle.counting.specs.Tallies.{total_of}
use Rattle.counting.proofs.outcomes.Outcomes.by_count.Goals as goal

pub returns : goal.returns
returns c =
    let outcomes = c.self.inside.outcomes.items in
    let collected = map_from_collect {E = Unit {0}} (Ok c.in_ok-sorted.sorted) c.in_ok-sorted.ensures.ran (YieldsList-from_slice outcomes cc) in
    sum_by-IsPermutation (λ t. t.count) _ _ (IsPermutation-map (λ t. t.now) _ _ c.in_ok-sort_by_key.ensures.permutation) ∙ ap total_of collected ∙ c.self.invariant ∙ c.self.view_is
