use Rattle.std.proofs.Common.{◌≤◌, ◌-◌, map, replicate}
use Rattle.std.specs.String.{string_bytes}
use Rattle.posix.specs.declared.event.Event.TheVariants.{Key}
use Rattle.schedules.specs.EventLines.{AddsFirst}
use Rattle.schedules.proofs.eventtext.put_run.Given as goal

-- The events before the next one are added.
abbrev pub invariant-loop-remark : goal.invariant-loop-remark
invariant-loop-remark l = record {
  least : l.start ≤ l.next;
  most : l.next ≤ l.end;
  adds : AddsFirst (string_bytes l.fn.text) (map (Key l.fn.keys.console) l.fn.keys.bytes.items) (replicate (l.next - l.start) l.run.event) (string_bytes l.text) (map (Key l.keys.console) l.keys.bytes.items);
}
