use Rattle.std.proofs.Common.{List, map}
use Rattle.clap.specs.Words.{Text}
use Rattle.inputs.specs.Words.{files_in, files_in_words, with_files}
use Rattle.inputs.proofs.RequestLemmas.{asked_alike, files_are_simple, refused_words, taken_words, told_refused}
use Rattle.inputs.proofs.words.named_world_and_events.Goals as goal

pub returns-in_err-matches : goal.returns-in_err-matches
returns-in_err-matches c =
    let program = c.args.program.now in
    let words : List Text = map (λ w. w.now) c.args.words.now in
    told_refused c.from_residual-in_err-matches.result _ (files_in_words program words) c.in_err-matches.field-0.0 c.from_residual-in_err-matches.ensures.1
    (refused_words _ (with_files program) words c.in_err-matches.field-0.0 _ (files_are_simple program) c.in_ok-command.ensures c.in_err-matches.ensures.kinds)

pub returns : goal.returns
returns c =
    let program = c.args.program.now in
    let words : List Text = map (λ w. w.now) c.args.words.now in
    asked_alike (λ names. (names.0.now, names.1.now)) c.named_files.result _ (files_in_words program words)
    (taken_words _ (with_files program) words c.in_ok-matches.matches files_in (files_are_simple program) c.in_ok-command.ensures c.in_ok-matches.ensures.kinds c.in_ok-matches.ensures.matches)
    c.named_files.ensures
