use Rattle.std.proofs.Common.{refl}
use Rattle.kernel.proofs.RunLemmas.{lines_broken, prints_both}
use Rattle.posix.specs.Common.{numbered}
use Rattle.kernel.specs.PrintLaws.{lines_break}
use Rattle.kernel.specs.Steps.{noted_lines}
use Rattle.posix.proofs.ResultLemmas.{on_err}
use Rattle.kernel.proofs.progress.PrinterObserver.hear.Goals as goal

pub returns-in_err-write_notes-clause-err : goal.returns-in_err-write_notes-clause-err
returns-in_err-write_notes-clause-err g c =
    on_err c.from_residual.result (lines_broken _ _ _ (noted_lines c.args.pid c.args.notes.now) (numbered c.args.event c.args.entries.now) c.in_err-write_notes.ensures.err)

pub returns-in_err-ends-clause-err : goal.returns-in_err-ends-clause-err
returns-in_err-ends-clause-err g c =
    on_err c.from_residual-in_err-ends.result
    (lines_break _ (g.S.Sink.seen c.write_notes.new.out) _ _ c.write_notes.new.pending (noted_lines c.args.pid c.args.notes.now) (numbered c.args.event c.args.entries.now)
    c.in_ok-write_notes.ensures.ok c.in_err-ends.ensures.err)

pub returns-clause-ok : goal.returns-clause-ok
returns-clause-ok g c =
    prints_both c.args.event c.args.pid c.args.notes.now c.args.entries.now _ (g.S.Sink.seen c.write_notes.new.out) _ _ c.write_notes.new.pending _ c.args.self.now.ends c.in_ok-ends.ends _
    c.in_ok-write_notes.ensures.ok c.in_ok-ends.ensures.ok c.in_ok-ends.ensures.ends refl
