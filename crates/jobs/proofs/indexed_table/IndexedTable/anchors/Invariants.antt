use Rattle.std.proofs.Common.{length}
use Rattle.posix.specs.Common.{left_of}
use Rattle.pidset.specs.Indexes.{anchor_key}
use Rattle.jobs.proofs.GroupLemmas.{IsCount, under}
use Rattle.jobs.proofs.indexed_table.IndexedTable.anchors.Given as goal

abbrev pub invariant-loop-next : goal.invariant-loop-next
invariant-loop-next g l = IsCount (anchor_key l.self.processes) l.group l.self.processes l.count l.next

abbrev pub decreases-loop-next : goal.decreases-loop-next
decreases-loop-next g l = length (left_of l.next (under (anchor_key l.self.processes) l.group l.self.processes))
