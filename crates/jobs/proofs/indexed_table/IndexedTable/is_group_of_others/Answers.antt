use Rattle.std.proofs.Common.{refl}
use Rattle.jobs.proofs.MoveLemmas.{others_of}
use Rattle.jobs.proofs.indexed_table.IndexedTable.is_group_of_others.Goals as goal

pub returns-in_default : goal.returns-in_default
returns-in_default g c = λ it found. rw (others_of c.args.pid _ it c.first_member.ensures.rising found, ← c.first_member.ensures.first, c.in_default.is) refl

pub returns-then-ne : goal.returns-then-ne
returns-then-ne g c = λ it found. rw (others_of c.args.pid _ it c.first_member.ensures.rising found, ← c.first_member.ensures.first, c.in-Some.is, ← c.ne.ensures, c.if-ne.true) refl

pub returns-else-ne : goal.returns-else-ne
returns-else-ne g c = λ it found. rw (others_of c.args.pid _ it c.first_member.ensures.rising found, ← c.first_member.ensures.first, c.in-Some.is, ← c.ne.ensures, c.if-ne.false, ← c.next_member.ensures) c.is_some.ensures
