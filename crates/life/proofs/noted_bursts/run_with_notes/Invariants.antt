use Rattle.std.proofs.Common.{◌≡◌, ◌-◌, ◌≤◌, length}
use Rattle.life.specs.NotedBursts.{most_notes, exec_with_notes}
use Rattle.life.proofs.NotedBurstLemmas.{rest_after, with_notes}
use Rattle.life.proofs.noted_bursts.run_with_notes.Given as goal

abbrev pub invariant-loop-cpu : goal.invariant-loop-cpu
invariant-loop-cpu l = record {
  taken : exec_with_notes l.program.instructions most_notes l.before l.last l.fn.cpu ≡ with_notes l.notes.items (rest_after l.program.instructions l.last l.cpu l.done l.notes.items);
  from : l.before ≤ l.done;
  within : l.done ≤ l.last;
}

abbrev pub decreases-loop-cpu : goal.decreases-loop-cpu
decreases-loop-cpu l = most_notes - length l.notes.items
