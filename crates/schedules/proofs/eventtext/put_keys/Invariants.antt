use Rattle.std.proofs.Common.{map, replicate}
use Rattle.std.specs.String.{string_bytes}
use Rattle.posix.specs.declared.event.Event.TheVariants.{Key}
use Rattle.schedules.specs.EventLines.{AddsFirst}
use Rattle.schedules.proofs.eventtext.put_keys.Given as goal

abbrev pub invariant-loop-i : goal.invariant-loop-i
invariant-loop-i l =
    AddsFirst (string_bytes l.fn.text) (map (Key l.fn.keys.console) l.fn.keys.bytes.items) (replicate l._i (Key l.console l.byte)) (string_bytes l.text) (map (Key l.keys.console) l.keys.bytes.items)
