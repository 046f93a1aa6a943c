use Rattle.std.proofs.Common.{arith}
use Rattle.schedules.proofs.WalkLemmas.{begins, first_among}
use Rattle.schedules.proofs.schedule.Schedule.first.Goals as goal

pub invariant_of-result : goal.invariant_of-result
invariant_of-result c =
    (rw c.new.ensures.items (omega arith), rw c.new.ensures.items (first_among c.args.upto c.args.ticks))

pub returns-clause-begins : goal.returns-clause-begins
returns-clause-begins c = rw c.new.ensures.items (begins c.args.upto c.args.ticks)
