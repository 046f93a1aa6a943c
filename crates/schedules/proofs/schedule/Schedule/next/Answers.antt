use Rattle.schedules.proofs.WalkLemmas.{gone, gone_among, gone_within}
use Rattle.schedules.proofs.schedule.Schedule.next.Goals as goal

pub invariant_of-self : goal.invariant_of-self
invariant_of-self c =
    let s = c.self.inside in (
      gone_within s.upto s.ticks c.go_on.result s.places.items c.go_on.new.places.items c.go_on.ensures.ok c.go_on.ensures.err c.self.invariant.0,
      gone_among s.upto s.ticks c.go_on.result s.places.items c.go_on.new.places.items c.go_on.ensures.ok c.go_on.ensures.err c.self.invariant.1,
    )

pub returns-clause-comes : goal.returns-clause-comes
returns-clause-comes c = rw (← c.self.view_is)
    (gone c.self.inside.upto c.self.inside.ticks c.go_on.result c.self.inside.places.items c.go_on.new.places.items c.go_on.ensures.ok)
