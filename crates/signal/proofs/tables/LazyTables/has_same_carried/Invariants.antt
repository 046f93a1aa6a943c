use Rattle.std.proofs.Common.{◌≡◌, ℕ, ◌<◌}
use Rattle.signal.specs.SignalTables.{pending_at}
use Rattle.signal.proofs.tables.LazyTables.has_same_carried.Given as goal

-- the signals in the rows so far carry the same
abbrev pub invariant-loop-row : goal.invariant-loop-row
invariant-loop-row l = (k : ℕ) → k < l.row → pending_at l.pending l.self.carried k ≡ pending_at l.pending l.other.carried k
