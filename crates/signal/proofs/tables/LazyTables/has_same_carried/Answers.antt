use Rattle.std.proofs.Common.{arith}
use Rattle.signal.proofs.SetLemmas.{standard_same}
use Rattle.signal.proofs.tables.LazyTables.has_same_carried.Goals as goal

pub returns : goal.returns
returns c e = standard_same c.args.pending c.args.self.now.carried c.args.other.now.carried (λ k l. c.loop-row.invariant k (omega (arith, l)))
