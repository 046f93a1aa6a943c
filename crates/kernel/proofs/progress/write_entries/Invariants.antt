use Rattle.std.proofs.Common.{◌≡◌, take}
use Rattle.posix.specs.Common.{numbered, reported, print}
use Rattle.trace.specs.Sinks.{Gathers}
use Rattle.kernel.proofs.progress.write_entries.Given as goal

abbrev pub invariant-loop-entry : goal.invariant-loop-entry
invariant-loop-entry g l = record {
  gathered : Gathers (g.S.Sink.seen l.fn.out) l.fn.pending (g.S.Sink.seen l.out) l.pending (print (numbered l.event (take l.entry-index l.entries)));
  ends : reported (numbered l.event (take l.entry-index l.entries)) ≡ l.ends;
}
