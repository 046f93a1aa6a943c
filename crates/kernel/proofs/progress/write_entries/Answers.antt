use Rattle.std.proofs.Common.{ap, ◌∙◌, arith}
use Rattle.std.specs.Int.{from_bool}
use Rattle.posix.specs.declared.entry.Entry.{Entry}
use Rattle.posix.specs.Common.{line, reports_end, printed}
use Rattle.kernel.proofs.RunLemmas.{line_gathered, line_broken, ends_more}
use Rattle.posix.proofs.ResultLemmas.{on_err}
use Rattle.kernel.proofs.progress.write_entries.Goals as goal

pub loop-entry-preserved : goal.loop-entry-preserved
loop-entry-preserved g c =
    let text = ap (printed c.args.event) c.entry-item.is in
    let one = c.from-ends.ensures ∙ ap from_bool c.reports_end.ensures ∙ ap (λ (e : Entry). from_bool (reports_end e)) c.entry-item.is in
    record {
      gathered = line_gathered (line c.args.event) c.args.entries.now c.loop-entry.entry-index c.entry-item.result _ (g.S.Sink.seen c.loop-entry.out) _ _ c.loop-entry.pending _ _
          c.loop-entry-test.true text c.loop-entry.invariant.gathered c.in_ok-add.ensures.ok;
      ends = ends_more c.args.event c.args.entries.now c.loop-entry.entry-index c.entry-item.result c.loop-entry-test.true ∙ omega (arith, c.loop-entry.invariant.ends, one);
    }

pub returns-in_err-add-clause-err : goal.returns-in_err-add-clause-err
returns-in_err-add-clause-err g c =
    let text = ap (printed c.args.event) c.entry-item.is in
    on_err c.from_residual.result
    (line_broken (line c.args.event) c.args.entries.now c.loop-entry.entry-index c.entry-item.result _ (g.S.Sink.seen c.loop-entry.out) _ _ c.loop-entry.pending _
    c.loop-entry-test.true text c.loop-entry.invariant.gathered c.in_err-add.ensures.err)
