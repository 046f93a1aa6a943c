use Rattle.std.proofs.Common.{length}
use Rattle.posix.specs.Common.{left_of, wanted_in}
use Rattle.posix.proofs.ReportingLemmas.{IsWantedWalk}
use Rattle.life.specs.Waits.{is_meant}
use Rattle.life.proofs.machine.Machine.first_wanted.Given as goal

abbrev pub invariant-loop-next : goal.invariant-loop-next
invariant-loop-next g l = IsWantedWalk l.self.state.processes l.parent (is_meant l.group) l.options.0 l.next

abbrev pub decreases-loop-next : goal.decreases-loop-next
decreases-loop-next g l = length (left_of l.next (wanted_in l.options.0 l.parent l.self.state.processes))
