use Rattle.std.proofs.Common.{arith}
use Rattle.exploring.proofs.turns.turns_of.Goals as goal

pub add_turns-added-requires-clause-few : goal.add_turns-added-requires-clause-few
add_turns-added-requires-clause-few c = let f = c.args.family.now in omega (arith, f.short, c.requires.few)
