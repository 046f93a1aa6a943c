use Rattle.std.proofs.Common.{◌≤◌, ◌+◌, length}
use Rattle.posix.specs.Common.{IsRegular, IsSettled}
use Rattle.exploring.proofs.turns.add_turns.Given as goal

-- The events of the list so far have run, and the insertions at the spots so far.
abbrev pub invariant-loop-before : goal.invariant-loop-before
invariant-loop-before l = record {
  given : l.given ≤ length l.family.events.now;
  some : l.kernel.events ≤ l.given + l.before;
  regular : IsRegular l.kernel.state;
  settled : IsSettled l.kernel.state;
}
