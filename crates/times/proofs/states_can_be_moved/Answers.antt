-- The lemmas that this law is.
use Rattle.times.proofs.RegularLemmas.{is_regular_later, is_settled_later}
use Rattle.times.proofs.states_can_be_moved.Goals as goal

pub returns : goal.returns
returns c = record { regular = is_regular_later; settled = is_settled_later }
