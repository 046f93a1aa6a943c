use Rattle.std.proofs.Common.{◌∙◌, map}
use Rattle.clap.specs.Words.{found_of, rows_of}
use Rattle.inputs.proofs.RequestLemmas.{refused_words, taken_words, told_asked, told_refused}
use Rattle.explaining.proofs.WordLemmas.{asks, is_simple}
use Rattle.explaining.specs.Words.{asked_in, asked_in_words, command_line, said}
use Rattle.explaining.proofs.words.request.Goals as goal

pub returns-in_err-matches : goal.returns-in_err-matches
returns-in_err-matches c =
    let words = map (λ w. w.now) c.args.words.now in
    told_refused c.from_residual-in_err-matches.result _ (asked_in_words words) c.in_err-matches.field-0.0 c.from_residual-in_err-matches.ensures.1
    (refused_words _ command_line words c.in_err-matches.field-0.0 _ is_simple c.in_ok-command.ensures c.in_err-matches.ensures.kinds)

pub returns : goal.returns
returns c =
    let words = map (λ w. w.now) c.args.words.now in
    told_asked said c.ok_or.result c.asked_by.result (asked_in_words words) c.ok_or.ensures.value
    (taken_words _ command_line words c.in_ok-matches.matches asked_in is_simple c.in_ok-command.ensures c.in_ok-matches.ensures.kinds c.in_ok-matches.ensures.matches
    ∙ asks (rows_of (found_of c.in_ok-matches.matches)) c.value_of.result c.value_of-2.result c.value_of-3.result c.asked_by.result c.value_of.ensures c.value_of-2.ensures c.value_of-3.ensures
    c.asked_by.ensures)
