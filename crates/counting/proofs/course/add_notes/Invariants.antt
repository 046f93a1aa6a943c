use Rattle.std.proofs.Common.{◌≡◌, ◌++◌, take}
use Rattle.kernel.specs.Steps.{noted_lines}
use Rattle.counting.proofs.course.add_notes.Given as goal

abbrev pub invariant-loop-note : goal.invariant-loop-note
invariant-loop-note l = l.lines.items ≡ l.fn.lines.items ++ noted_lines l.pid (take l.note-index l.notes)
