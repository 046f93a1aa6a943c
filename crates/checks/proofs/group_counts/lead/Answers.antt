use Rattle.std.proofs.Common.{inl, inr, rules}
use Rattle.checks.proofs.group_counts.lead.Goals as goal

pub change_seen-requires-clause-grouped : goal.change_seen-requires-clause-grouped
change_seen-requires-clause-grouped c = λ b d r here k. inr (inl (search rules))
