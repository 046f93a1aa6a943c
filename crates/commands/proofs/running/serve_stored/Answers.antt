use Rattle.commands.proofs.RunningLemmas.{run_means}
use Rattle.commands.specs.Running.{AreStored}
use Rattle.commands.proofs.running.serve_stored.Goals as goal

pub returns-clause-meaning : goal.returns-clause-meaning
returns-clause-meaning g c = rw c.ended.ensures (run_means AreStored _ _ _ _ _ _ c.run_texts.ensures)
