use Rattle.wording.specs.Names.{names, number_named}
use Rattle.wording.proofs.table.number_named.Goals as goal

pub returns : goal.returns
unfolding number_named names
returns c = rw c.called_among.ensures at (rw c.realtime_named.ensures at c.or.ensures)
