use Rattle.counting.specs.Samples.{samples}
use Rattle.counting.proofs.samples.can_be_shown.Goals as goal

pub returns-clause-without : goal.returns-clause-without
unfolding samples
returns-clause-without c = c.can_be_put_into_one.ensures.without
