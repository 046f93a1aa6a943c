use Rattle.posix.specs.Common.{marked_as}
use Rattle.proctable.specs.Records.{process_of}
use Rattle.proctable.proofs.records.Record.finish_marked.Goals as goal

pub returns : goal.returns
unfolding marked_as
returns c = λ p q. c.finish.ensures (process_of p q (record (c.args.self.now) { is_subreaper = c.args.mark }))
