use Rattle.std.proofs.Common.{◌≡◌}
use Rattle.merging.proofs.digest.with_processes.Given as goal

-- Nothing changed.
abbrev pub invariant-loop : goal.invariant-loop
invariant-loop l = record {
  state : l.kernel.state ≡ l.fn.kernel.state;
  events : l.kernel.events ≡ l.fn.kernel.events;
}
