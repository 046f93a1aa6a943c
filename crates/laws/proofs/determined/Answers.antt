-- The lemmas that these laws are.
use Rattle.std.proofs.Common.{rules}
use Rattle.laws.proofs.MemoryLemmas.{run_exists, step_determined, run_determined}
use Rattle.laws.proofs.determined.Goals as goal

pub returns : goal.returns
returns c = search (rules, run_exists, step_determined, run_determined)
