use Rattle.bitflags.specs.Sets.{known_from}
use Rattle.posix.specs.Common.{waitid_options as all}
use Rattle.posix.proofs.FlagLemmas.{some_bits}
use Rattle.posix.proofs.waits.waitid_options.Goals as goal

pub returns-clause-known : goal.returns-clause-known
unfolding known_from
returns-clause-known c = some_bits c.from_bits.result c.args.bits all (c.from_bits.ensures.known tt)
