-- The lemmas that this law is.
use Rattle.times.proofs.StepLemmas.{next_later}
use Rattle.times.proofs.RunLemmas.{runs_later, runs_earlier}
use Rattle.times.proofs.only_alarms_read_the_time.Goals as goal

pub returns : goal.returns
returns c = record { next = next_later; runs = runs_later; no_others = runs_earlier }
