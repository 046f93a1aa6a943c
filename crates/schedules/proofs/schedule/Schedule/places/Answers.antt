use Rattle.schedules.proofs.WalkLemmas.{schedule_of_walk}
use Rattle.schedules.proofs.schedule.Schedule.places.Goals as goal

pub returns-clause-are_of_family : goal.returns-clause-are_of_family
returns-clause-are_of_family c =
    rw (← c.self.view_is, c.as_slice.ensures.value) (schedule_of_walk c.self.inside.upto c.self.inside.ticks c.self.inside.places.items c.self.invariant.1)
