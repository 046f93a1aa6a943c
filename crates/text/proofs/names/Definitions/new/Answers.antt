use Rattle.std.proofs.Common.{rules}
use Rattle.text.specs.Names.{defined}
use Rattle.text.proofs.names.Definitions.new.Goals as goal

pub invariant_of-result : goal.invariant_of-result
unfolding defined
invariant_of-result c n h = rw (c.new.ensures.items) (search rules)
