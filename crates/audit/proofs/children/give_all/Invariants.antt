use Rattle.audit.specs.Records.{record_in}
use Rattle.audit.specs.Children.{count_children}
use Rattle.audit.proofs.GiveLemmas.{AreUpTo}
use Rattle.audit.proofs.children.give_all.Given as goal

abbrev pub invariant-loop-last : goal.invariant-loop-last
invariant-loop-last l = AreUpTo l.fn.pid l.heir l.last l.child (record_in l.fn.records.entries) (record_in l.records.entries)

abbrev pub decreases-loop-last : goal.decreases-loop-last
decreases-loop-last l = count_children l.fn.pid l.records.entries
