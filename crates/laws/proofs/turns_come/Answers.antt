-- The laws that no search finds.
use Rattle.laws.proofs.TurnLemmas.{nearer_after, tick_nears, turn_is_here, turn_comes}
use Rattle.laws.proofs.turns_come.Goals as goal

pub returns : goal.returns
returns c = record {
  stays = λ old new event entries h q e ne. (nearer_after old new event entries h q e ne).0;
  nears = λ old new event entries h q e ne. (nearer_after old new event entries h q e ne).1;
  tick = tick_nears;
  turn = λ s q. turn_is_here q s.order;
  comes = turn_comes;
}
