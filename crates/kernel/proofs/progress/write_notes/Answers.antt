use Rattle.std.proofs.Common.{◌≡◌, ◌∙◌, ap, get_or, pos, rules, to_z, of_z, w64}
use Rattle.posix.specs.declared.entry.Entry.TheVariants.{Noted}
use Rattle.posix.specs.Common.{printed}
use Rattle.life.specs.declared.noted_bursts.Note.{Note}
use Rattle.kernel.specs.Steps.{note_line}
use Rattle.kernel.proofs.RunLemmas.{line_gathered, line_broken}
use Rattle.posix.proofs.ResultLemmas.{on_err}
use Rattle.kernel.proofs.progress.write_notes.Goals as goal

pub loop-note-preserved : goal.loop-note-preserved
loop-note-preserved g c =
    let note : Note = get_or c.args.notes.now c.loop-note.note-index (record { step = 0; value = pos 0 }) in
    let kept : to_z w64 (of_z w64 note.value) ≡ note.value = search rules in
    record {
      gathered = line_gathered (note_line c.args.pid) c.args.notes.now c.loop-note.note-index _ _ (g.S.Sink.seen c.loop-note.out) _ _ c.loop-note.pending _ _
          c.loop-note-test.true (ap (λ z. printed note.step (Noted c.new-words.result z)) kept ∙ ap (λ p. printed note.step (Noted p note.value)) c.new-words.ensures) c.loop-note.invariant.gathered c.in_ok-add_note.ensures.ok;
    }

pub returns-in_err-add_note-clause-err : goal.returns-in_err-add_note-clause-err
returns-in_err-add_note-clause-err g c =
    let note : Note = get_or c.args.notes.now c.loop-note.note-index (record { step = 0; value = pos 0 }) in
    let kept : to_z w64 (of_z w64 note.value) ≡ note.value = search rules in
    on_err c.from_residual.result
    (line_broken (note_line c.args.pid) c.args.notes.now c.loop-note.note-index _ _ (g.S.Sink.seen c.loop-note.out) _ _ c.loop-note.pending _
    c.loop-note-test.true (ap (λ z. printed note.step (Noted c.new-words.result z)) kept ∙ ap (λ p. printed note.step (Noted p note.value)) c.new-words.ensures) c.loop-note.invariant.gathered c.in_err-add_note.ensures.err)
