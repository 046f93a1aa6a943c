use Rattle.std.proofs.Common.{◌∙◌, inr, rules, sym}
use Rattle.posix.proofs.ResultLemmas.{back}
use Rattle.proctable.specs.Records.{snapshot_of}
use Rattle.checks.proofs.group_counts.bear.Goals as goal

pub insert-requires-clause-parent : goal.insert-requires-clause-parent
insert-requires-clause-parent c =
    let up = back _ snapshot_of c.in-Some._up (sym c.in-Some.is ∙ c.get-2.ensures.finds.value) in
    inr (up.what, search rules, search rules)
