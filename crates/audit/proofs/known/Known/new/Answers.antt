use Rattle.std.proofs.Common.{ap, ◌∙◌}
use Rattle.audit.specs.Records.{record_in, has_mark_now}
use Rattle.audit.proofs.ChildLemmas.{no_links}
use Rattle.audit.proofs.KeptLemmas.{first_kept, first_unmarked}
use Rattle.audit.proofs.known.Known.new.Goals as goal

pub begin-requires-clause-linked : goal.begin-requires-clause-linked
begin-requires-clause-linked c = no_links (record_in c.with_hasher-records.result.entries) (λ i. ap (λ es. record_in es i) c.with_hasher-records.ensures.empty)

pub invariant_of-result : goal.invariant_of-result
invariant_of-result c = (
  c.in_ok-begin.ensures.ok.linked,
  λ e q. ap has_mark_now (first_kept c.with_hasher-records.result.entries c.begin.new.records.entries c.with_hasher-records.ensures.empty c.in_ok-begin.ensures.ok q) ∙ first_unmarked q,
)

pub returns : goal.returns
returns c = λ n. first_kept c.with_hasher-records.result.entries c.begin.new.records.entries c.with_hasher-records.ensures.empty c.in_ok-begin.ensures.ok n
