use Rattle.std.proofs.lemmas.Bool.{MatchBool-at_true}
use Rattle.std.proofs.lemmas.List.Sorted.{non_decreasing_from_is_sorted}
use Rattle.counting.proofs.families.do_rise.Goals as goal

pub returns : goal.returns
returns c = λ rise. MatchBool-at_true _ _ rise (non_decreasing_from_is_sorted c.args.spots.now c.is_sorted.result c.is_sorted.ensures.cases)
