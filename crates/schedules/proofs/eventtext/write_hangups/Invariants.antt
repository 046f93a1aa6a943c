use Rattle.std.proofs.Common.{replicate}
use Rattle.std.specs.String.{string_bytes}
use Rattle.posix.specs.declared.event.Event.TheVariants.{Hangup}
use Rattle.schedules.specs.EventLines.{AddsLines}
use Rattle.schedules.proofs.eventtext.write_hangups.Given as goal

abbrev pub invariant-loop-i : goal.invariant-loop-i
invariant-loop-i l = AddsLines (string_bytes l.fn.text) (replicate l._i (Hangup l.console)) (string_bytes l.text)
