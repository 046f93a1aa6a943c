use Rattle.commands.proofs.RunningLemmas.{run_means}
use Rattle.commands.proofs.running.serve_run.Goals as goal

pub returns-in-Ok-clause-meaning : goal.returns-in-Ok-clause-meaning
returns-in-Ok-clause-meaning g c = rw (c.ended.ensures, c.in-Ok.ensures) (run_means _ _ _ _ _ _ _ c.run_files.ensures)
