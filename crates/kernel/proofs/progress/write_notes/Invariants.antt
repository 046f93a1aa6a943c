use Rattle.std.proofs.Common.{take}
use Rattle.posix.specs.Common.{print}
use Rattle.trace.specs.Sinks.{Gathers}
use Rattle.kernel.specs.Steps.{noted_lines}
use Rattle.kernel.proofs.progress.write_notes.Given as goal

abbrev pub invariant-loop-note : goal.invariant-loop-note
invariant-loop-note g l = record {
  gathered : Gathers (g.S.Sink.seen l.fn.out) l.fn.pending (g.S.Sink.seen l.out) l.pending (print (noted_lines l.fn.pid (take l.note-index l.notes)));
}
