use Rattle.std.proofs.Common.{◌≡◌, [], length, map, take}
use Rattle.std.specs.String.{string_bytes}
use Rattle.posix.specs.declared.event.Event.TheVariants.{Key}
use Rattle.text.specs.EventLists.{expanded}
use Rattle.schedules.specs.EventLines.{AddsFirst}
use Rattle.schedules.proofs.eventtext.write_events.Given as goal

abbrev pub invariant-loop-run : goal.invariant-loop-run
invariant-loop-run l = record {
  at : l.start ≡ length (expanded (take l.run-index l.run-items));
  adds : AddsFirst (string_bytes l.fn.text) [] (expanded (take l.run-index l.run-items)) (string_bytes l.text) (map (Key l.keys.console) l.keys.bytes.items);
}
