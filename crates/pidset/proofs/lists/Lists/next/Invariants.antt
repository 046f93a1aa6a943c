use Rattle.std.proofs.Common.{◌+◌, ◌-◌, ◌==◌, cond}
use Rattle.pidset.specs.Lists.{IsFrom}
use Rattle.pidset.proofs.lists.Lists.next.Given as goal

-- no process between is skipped
abbrev pub invariant-loop-next : goal.invariant-loop-next
invariant-loop-next l = IsFrom l.self-inside.nodes l.list l.after l.next

abbrev pub decreases-loop-next : goal.decreases-loop-next
decreases-loop-next l = cond (l.next == 0) 0 (l.after + 1 - l.next)
