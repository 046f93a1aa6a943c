-- The numbers of live processes and zombies.
use Rattle.std.specs.Prelude.{count_by}
use Rattle.posix.specs.Common.{is_living, is_zombie, State}
use Rattle.life.specs.declared.census.Census.{Census}

-- the processes of a state, in numbers
abbrev pub census_of : State → Census
census_of s = record {
  births = s.births;
  living = count_by is_living s.processes;
  zombies = count_by (λ r. is_zombie r.life) s.processes;
  dropped = s.dropped;
  halted = s.halted;
}
