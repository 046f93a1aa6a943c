use Rattle.std.proofs.Common.{rules}
use Rattle.posix.specs.Common.{numbered}
use Rattle.counting.proofs.CourseLemmas.{both_added, on_ok_both}
use Rattle.counting.proofs.course.CollectorObserverVecLine.hear.Goals as goal

pub returns-clause-ok : goal.returns-clause-ok
returns-clause-ok c =
    on_ok_both c.add_entries.result _ _ _ c.add_entries.ensures.lines c.add_entries.ensures.granted
    (λ lines granted. both_added c.args.pid c.args.notes.now c.args.lines.now.items c.add_notes.new.lines.items c.add_entries.new.lines.items (numbered c.args.event c.args.entries.now) (search rules) lines granted)
