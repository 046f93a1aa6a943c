-- A run in numbers.
use Rattle.std.specs.Prelude.{ℕ, List, count_by}
use Rattle.posix.specs.Common.{is_living, is_zombie, Line, reported, State}
use Rattle.kernel.specs.declared.summary.Summary.{Summary}

-- counted from the events, the lines of the trace and the last state
abbrev pub summary_of : ℕ → List Line → State → Summary
summary_of events lines last = record {
  events = events;
  births = last.births;
  living = count_by is_living last.processes;
  zombies = count_by (λ r. is_zombie r.life) last.processes;
  reported = reported lines;
  dropped = last.dropped;
  halted = last.halted;
}
