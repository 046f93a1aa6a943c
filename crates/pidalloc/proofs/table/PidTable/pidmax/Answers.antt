use Rattle.std.proofs.Common.{subst}
use Rattle.pidalloc.specs.Rows.{IsPids}
use Rattle.pidalloc.proofs.TableLemmas.{pids_of}
use Rattle.pidalloc.proofs.table.PidTable.pidmax.Goals as goal

pub returns-clause-kept : goal.returns-clause-kept
returns-clause-kept c = subst IsPids c.self.view_is (pids_of _ _ _ _ _ _ c.self.invariant)
