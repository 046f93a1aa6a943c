use Rattle.commands.proofs.RunningLemmas.{run_fails}
use Rattle.commands.proofs.running.run_texts.Goals as goal

pub returns-in-Err : goal.returns-in-Err
returns-in-Err g c = run_fails _ _ _ _ _ _ c.in-Err.why c.in-Err.ensures.headline
