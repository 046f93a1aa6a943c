-- The laws that no search finds.
use Rattle.posix.specs.Common.{boot, IsRegular}
use Rattle.posix.proofs.RegularLemmas.{regular_first}
use Rattle.posix.proofs.WakeLemmas.{run_keeps}
use Rattle.laws.proofs.RegularStays.{step_regular}
use Rattle.laws.proofs.regular_stays.Goals as goal

pub returns : goal.returns
returns c = record {
  start = regular_first;
  step = step_regular;
  runs = λ w events lines last most run. run_keeps IsRegular step_regular 1 (boot w) last events lines run (regular_first w most);
}
