use Rattle.std.proofs.Common.{◌≡◌, ℕ, ◌<◌}
use Rattle.signal.specs.ActionFields.{action_at}
use Rattle.signal.proofs.action_fields.Actions.is_same.Given as goal

-- the actions in the rows so far are the same
abbrev pub invariant-loop-row : goal.invariant-loop-row
invariant-loop-row l = (k : ℕ) → k < l.row → action_at l.self k ≡ action_at l.other k
