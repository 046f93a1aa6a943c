use Rattle.std.proofs.Common.{◌≡◌, length, take, max, min}
use Rattle.posix.specs.Common.{World}
use Rattle.text.specs.EventLists.{expanded}
use Rattle.showing.specs.Pasts.{IsReached}
use Rattle.showing.proofs.replay.run_to.Given as goal

-- the events of the counted runs so far were run, up to the last requested event
abbrev pub invariant-loop-run : goal.invariant-loop-run
invariant-loop-run g l = record {
  end : l.end ≡ length (expanded (take l.run-index l.run-items));
  at : l.replay.kernel.events ≡ max l.fn.replay.kernel.events (min l.last l.end);
  reached : (world : World) → IsReached world l.events l.fn.replay.kernel → IsReached world l.events l.replay.kernel;
}
