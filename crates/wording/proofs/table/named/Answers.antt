use Rattle.wording.specs.Names.{named_as, names}
use Rattle.wording.proofs.table.named.Goals as goal

pub returns : goal.returns
unfolding named_as names
returns c = c.named_among.ensures
