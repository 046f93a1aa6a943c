-- The laws that no search finds.
use Rattle.std.proofs.Common.{ap, sym, ◌∙◌}
use Rattle.posix.specs.Common.{Outcome, boot, IsSettled}
use Rattle.posix.proofs.CountLemmas.{next_halted}
use Rattle.posix.proofs.WakeLemmas.{first_settled, next_settled, settled_stays, nothing_after_halt, run_keeps}
use Rattle.laws.proofs.PlaceLemmas.{given_can_act, reader_has_place}
use Rattle.laws.proofs.no_wake_is_lost.Goals as goal

pub returns : goal.returns
returns c = record {
  start = first_settled;
  after = next_settled;
  readers = reader_has_place;
  runs = λ w events lines last run. run_keeps IsSettled settled_stays 1 (boot w) last events lines run (first_settled w);
  halted = nothing_after_halt;
  silent = λ old new event entries step halted. ap (λ (o : Outcome). o.entries) (sym step.comes ∙ next_halted step.granted old event halted);
  given = given_can_act;
}
