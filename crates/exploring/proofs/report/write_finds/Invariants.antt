use Rattle.std.proofs.Common.{take}
use Rattle.std.specs.String.{string_bytes}
use Rattle.exploring.specs.Reports.{Adds, ShowsFinds}
use Rattle.exploring.proofs.report.write_finds.Given as goal

abbrev pub invariant-loop-find : goal.invariant-loop-find
invariant-loop-find l = Adds (string_bytes l.fn.text) (ShowsFinds l.family.loose.now l.family.events.now (take l.find-index l.finds)) (string_bytes l.text)
