use Rattle.std.proofs.Common.{◌≤◌}
use Rattle.life.proofs.TerminalLemmas.{AreNobodys}
use Rattle.life.proofs.consoles.nobodys.Given as goal

abbrev pub invariant-loop-console_index : goal.invariant-loop-console_index
invariant-loop-console_index l = record {
  nobodys : AreNobodys l.console_index l.terminals.pairs;
  room : l.count ≤ l.terminals.room;
}
