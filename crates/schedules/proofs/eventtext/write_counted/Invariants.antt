use Rattle.std.proofs.Common.{◌≤◌, ◌-◌, replicate}
use Rattle.std.specs.String.{string_bytes}
use Rattle.posix.specs.declared.event.Event.{Event}
use Rattle.schedules.specs.EventLines.{AddsLines, IsWordOf}
use Rattle.schedules.proofs.eventtext.write_counted.Given as goal

abbrev pub invariant-loop-left : goal.invariant-loop-left
invariant-loop-left l = record {
  within : l.left ≤ l.count;
  adds : (event : Event) → IsWordOf event l.word → AddsLines (string_bytes l.fn.text) (replicate (l.count - l.left) event) (string_bytes l.text);
}

abbrev pub decreases-loop-left : goal.decreases-loop-left
decreases-loop-left l = l.left
