-- The laws that no search finds.
use Rattle.schedules.proofs.ScheduledLemmas.{front, length_scheduled}
use Rattle.schedules.proofs.schedules_go_from_the_front.Goals as goal

pub returns-clause-front : goal.returns-clause-front
returns-clause-front c = front

pub returns-clause-length : goal.returns-clause-length
returns-clause-length c = length_scheduled
