-- The laws that no search finds.
use Rattle.laws.proofs.AgreeRuns.{first_orderly, first_trace, step_orderly, step_trace, run_trace, run_agrees}
use Rattle.laws.proofs.RefusalLemmas.{birth_free}
use Rattle.laws.proofs.ToldRecords.{living_open, open_living, zombie_ended, agree_lives}
use Rattle.laws.proofs.lines_tell_of_states.Goals as goal

pub returns : goal.returns
returns c = record {
  start = first_orderly;
  begins = first_trace;
  orderly = step_orderly;
  step = step_trace;
  no_number_is_given_out_twice = birth_free;
  runs = run_trace;
  lawful = λ lines k s h. h.laws;
  births_are_accounted_for = λ lines k s h. (h.born, h.counts);
  living_are_open_lives = λ lines k s h p. (living_open lines k s h p, open_living lines k s h p);
  zombies_are_ended_lives = zombie_ended;
  agrees = run_agrees;
  lives_and_news = agree_lives;
}
