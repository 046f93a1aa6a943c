use Rattle.std.proofs.Common.{◌≡◌, ◌+◌, ◌-◌, ◌<◌, ◌≤◌, ℕ, None}
use Rattle.pidset.specs.Pages.{value_at}
use Rattle.pidset.proofs.page.Page.next_above.Given as goal

-- no ID above `after` has a value so far
abbrev pub invariant-loop-at : goal.invariant-loop-at
invariant-loop-at g l = record {
  high : l.at ≤ 64;
  above : l.fn.after < l.first + l.at;
  none : (i : ℕ) → i < l.at → l.fn.after < l.first + i → value_at l.self.values.items i ≡ None;
}

abbrev pub decreases-loop-at : goal.decreases-loop-at
decreases-loop-at g l = l.self.end - l.at
