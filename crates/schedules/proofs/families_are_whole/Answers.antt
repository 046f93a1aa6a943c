-- The laws that no search finds.
use Rattle.schedules.proofs.FamilyLemmas.{members, in_order, once}
use Rattle.schedules.proofs.SizeLemmas.{size}
use Rattle.schedules.proofs.families_are_whole.Goals as goal

pub returns-clause-members : goal.returns-clause-members
returns-clause-members c = members

pub returns-clause-in_order : goal.returns-clause-in_order
returns-clause-in_order c = in_order

pub returns-clause-once : goal.returns-clause-once
returns-clause-once c = once

pub returns-clause-size : goal.returns-clause-size
returns-clause-size c = size
