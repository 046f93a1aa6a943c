use Rattle.std.proofs.Common.{sym, ◌∙◌}
use Rattle.counting.proofs.CourseLemmas.{denies_by_entries}
use Rattle.counting.proofs.course.add_entries.Goals as goal

pub returns-clause-granted : goal.returns-clause-granted
returns-clause-granted c = denies_by_entries c.args.event c.args.entries.now ∙ sym c.deny_memory.ensures ∙ c.if-deny_memory.false
