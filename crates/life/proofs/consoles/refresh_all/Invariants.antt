use Rattle.std.proofs.Common.{◌≡◌, ◌+◌, ◌≤◌}
use Rattle.posix.specs.Common.{refreshed}
use Rattle.life.proofs.ReaderLemmas.{refreshed_to}
use Rattle.life.proofs.consoles.refresh_all.Given as goal

abbrev pub invariant-loop-console_index : goal.invariant-loop-console_index
invariant-loop-console_index g l = record {
  consoles : l.consoles.items ≡ refreshed_to (refreshed l.fn.table.processes) l.console_index l.fn.consoles.items;
  processes : l.table.processes ≡ l.fn.table.processes;
  no_fewer : l.fn.table.visits ≤ l.table.visits;
  visits : l.table.visits ≤ l.fn.table.visits + l.console_index;
}
