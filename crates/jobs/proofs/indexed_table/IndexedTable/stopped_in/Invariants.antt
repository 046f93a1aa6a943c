use Rattle.std.proofs.Common.{length}
use Rattle.posix.specs.Common.{left_of}
use Rattle.jobs.specs.Indexes.{stopped_key}
use Rattle.jobs.proofs.GroupLemmas.{IsCount, under}
use Rattle.jobs.proofs.indexed_table.IndexedTable.stopped_in.Given as goal

abbrev pub invariant-loop-next : goal.invariant-loop-next
invariant-loop-next g l = IsCount (stopped_key) l.fn.group l.self.processes l.count l.next

abbrev pub decreases-loop-next : goal.decreases-loop-next
decreases-loop-next g l = length (left_of l.next (under (stopped_key) l.fn.group l.self.processes))
