use Rattle.std.proofs.Common.{arith, rules}
use Rattle.std.proofs.lemmas.Grind.{common_steps}
use Rattle.std.proofs.lemmas.List.{flat_map_more, take_more}
use Rattle.naming.proofs.line.joined.Goals as goal

pub loop-text-preserved : goal.loop-text-preserved
loop-text-preserved c = record {
  items = first_of (grind (arith, common_steps, flat_map_more, take_more), search (rules, flat_map_more, take_more));
  one_line = first_of (search rules, grind (arith, common_steps));
}
