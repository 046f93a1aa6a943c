use Rattle.std.proofs.Common.{◌≡◌, ◌++◌, take}
use Rattle.posix.specs.Common.{numbered}
use Rattle.counting.proofs.course.add_entries.Given as goal

abbrev pub invariant-loop-entry : goal.invariant-loop-entry
invariant-loop-entry l = l.lines.items ≡ l.fn.lines.items ++ numbered l.event (take l.entry-index l.entries)
