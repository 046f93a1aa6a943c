use Rattle.std.proofs.Common.{◌∙◌, map, sym}
use Rattle.clap.specs.Words.{first_of}
use Rattle.inputs.specs.Words.{command_with_file, file_in_words}
use Rattle.inputs.proofs.RequestLemmas.{file_is_simple, refused_words, taken_words, told_asked, told_refused}
use Rattle.inputs.proofs.words.named_file.Goals as goal

pub returns-in_err-matches : goal.returns-in_err-matches
returns-in_err-matches c =
    let program = c.args.program.now in
    let file = c.args.file.now in
    told_refused c.from_residual-in_err-matches.result _ (file_in_words program file (map (λ w. w.now) c.args.words.now)) c.in_err-matches.field-0.0
    c.from_residual-in_err-matches.ensures.1
    (refused_words _ (command_with_file program file) _ c.in_err-matches.field-0.0 _ (file_is_simple program file) c.in_ok-command_with_file.ensures c.in_err-matches.ensures.kinds)

pub returns : goal.returns
returns c =
    let program = c.args.program.now in
    let file = c.args.file.now in
    told_asked (λ n. n.now) c.ok_or.result c.value_of.result (file_in_words program file (map (λ w. w.now) c.args.words.now)) c.ok_or.ensures.value
    (taken_words _ (command_with_file program file) _ c.in_ok-matches.matches (first_of file) (file_is_simple program file) c.in_ok-command_with_file.ensures
    c.in_ok-matches.ensures.kinds c.in_ok-matches.ensures.matches ∙ sym c.value_of.ensures)
