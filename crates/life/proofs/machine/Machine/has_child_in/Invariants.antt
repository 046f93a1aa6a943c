use Rattle.std.proofs.Common.{length}
use Rattle.posix.specs.Common.{children_in, left_of}
use Rattle.life.proofs.MemberLemmas.{IsSeeking}
use Rattle.life.proofs.machine.Machine.has_child_in.Given as goal

abbrev pub invariant-loop-next_child : goal.invariant-loop-next_child
invariant-loop-next_child g l = IsSeeking l.self.state.processes l.parent l.group l.next_child l.next_member

abbrev pub decreases-loop-next_child : goal.decreases-loop-next_child
decreases-loop-next_child g l = length (left_of l.next_child (children_in l.parent l.self.state.processes))
