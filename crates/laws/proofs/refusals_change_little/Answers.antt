-- The lemmas that these laws are.
use Rattle.std.proofs.Common.{rules}
use Rattle.laws.proofs.RefusalLemmas.{attempt_refused, attempt_no_memory, again_refused, again_no_memory, event_refused, event_no_memory}
use Rattle.laws.proofs.AgainLemmas.{begins_again, again_begins_again}
use Rattle.laws.proofs.refusals_change_little.Goals as goal

pub returns : goal.returns
returns c = search (rules, attempt_refused, attempt_no_memory, again_refused, again_no_memory, begins_again, again_begins_again, event_refused, event_no_memory)
