use Rattle.std.proofs.Common.{inl, rules}
use Rattle.checks.proofs.group_counts.become_life.Goals as goal

pub change_seen-requires-clause-grouped : goal.change_seen-requires-clause-grouped
change_seen-requires-clause-grouped c = λ b d r here k. inl (search rules)
