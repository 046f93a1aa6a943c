use Rattle.jobs.proofs.RoomLemmas.{inside_members}
use Rattle.jobs.proofs.indexes.Indexes.reindex.Goals as goal

pub put-requires-clause-pid : goal.put-requires-clause-pid
put-requires-clause-pid c = (c.requires.pid, (inside_members c.args.pid _ c.args.self.now c.requires.inside).0)

pub put-requires-clause-list : goal.put-requires-clause-list
put-requires-clause-list c = rw c.member_key.ensures (inside_members c.args.pid _ c.args.self.now c.requires.inside).1
