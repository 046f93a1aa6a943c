use Rattle.posix.specs.Common.{from_kernel}
use Rattle.posix.proofs.WalkLemmas.{numbers_left}
use Rattle.life.proofs.GroupSignalLemmas.{IsReaching}
use Rattle.life.proofs.machine.Machine.signal_members.Given as goal

abbrev pub invariant-loop-next : goal.invariant-loop-next
invariant-loop-next g l = IsReaching (record { sig = l.fn.sig; carried = from_kernel }) l.fn.group l.fn.self l.self l.next

abbrev pub decreases-loop-next : goal.decreases-loop-next
decreases-loop-next g l = numbers_left 2147483648 l.next
