use Rattle.std.proofs.Common.{◌≡◌, ℕ, ◌-◌, ◌<◌, ◌≤◌, false}
use Rattle.pidalloc.specs.Rows.{is_free_in}
use Rattle.pidalloc.proofs.table.PidTable.first_free.Given as goal

-- no ID so far is free
abbrev pub invariant-loop-at : goal.invariant-loop-at
invariant-loop-at l = record {
  from : l.from ≤ l.at;
  high : l.at ≤ 4195328;
  borne : (k : ℕ) → l.from ≤ k → k < l.at → k ≤ l.self.pidmax → is_free_in l.self.rows k ≡ false;
}

abbrev pub decreases-loop-at : goal.decreases-loop-at
decreases-loop-at l = 4195328 - l.at
