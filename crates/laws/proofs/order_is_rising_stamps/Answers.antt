-- The laws that no search finds.
use Rattle.std.proofs.Common.{rules, arith}
use Rattle.std.proofs.lemmas.Grind.{common_steps}
use Rattle.laws.proofs.StampLemmas.{losing_keeps_order, moves_keep_order, first_is_least, only_one_order}
use Rattle.laws.proofs.PlaceLemmas.{order_moves}
use Rattle.laws.proofs.order_is_rising_stamps.Goals as goal

pub returns : goal.returns
returns c = record {
  start = search rules;
  lose = λ p s. losing_keeps_order p s.order;
  moves = moves_keep_order;
  event = order_moves;
  first = λ p s. first_is_least p s.order;
  none = grind (arith, common_steps);
  only = only_one_order;
}
