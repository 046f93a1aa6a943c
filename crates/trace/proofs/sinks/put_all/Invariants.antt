use Rattle.std.proofs.Common.{◌≡◌, ◌-◌, ◌≤◌, length, take}
use Rattle.std.specs.Io.KnownBytes.{Appends}
use Rattle.trace.proofs.sinks.put_all.Given as goal

abbrev pub invariant-loop-done : goal.invariant-loop-done
invariant-loop-done g l = record {
  within : l.done ≤ length l.bytes;
  taken : Appends (g.S.Sink.seen l.fn.out).taken (g.S.Sink.seen l.out).taken (take l.done l.bytes);
  no_failure : (g.S.Sink.seen l.out).failures ≡ (g.S.Sink.seen l.fn.out).failures;
}

abbrev pub decreases-loop-done : goal.decreases-loop-done
decreases-loop-done g l = length l.bytes - l.done
