use Rattle.std.proofs.Common.{◌∙◌, map}
use Rattle.clap.specs.Words.{found_of, rows_of}
use Rattle.inputs.proofs.RequestLemmas.{refused_words, taken_words, told_refused}
use Rattle.explaining.proofs.DrawingLemmas.{asks, asks_nothing, is_simple}
use Rattle.explaining.specs.Drawings.{asked_in, command_line, drawing_asked}
use Rattle.explaining.proofs.words.requested.Goals as goal

pub returns-in_err-matches : goal.returns-in_err-matches
returns-in_err-matches c =
    let words = map (λ w. w.now) c.args.words.now in
    told_refused c.from_residual-in_err-matches.result _ (drawing_asked words) c.in_err-matches.field-0.0 c.from_residual-in_err-matches.ensures.1
    (refused_words _ command_line words c.in_err-matches.field-0.0 _ is_simple c.in_ok-command_with_flag.ensures c.in_err-matches.ensures.kinds)

pub returns-in-Some : goal.returns-in-Some
returns-in-Some c =
    taken_words _ command_line (map (λ w. w.now) c.args.words.now) c.in_ok-matches.matches asked_in is_simple c.in_ok-command_with_flag.ensures c.in_ok-matches.ensures.kinds
    c.in_ok-matches.ensures.matches
    ∙ asks (rows_of (found_of c.in_ok-matches.matches)) c.value_of.result c.in-Some.name c.is_used.result c.value_of.ensures c.in-Some.is c.is_used.ensures

pub returns : goal.returns
returns c = λ usage.
    taken_words _ command_line (map (λ w. w.now) c.args.words.now) c.in_ok-matches.matches asked_in is_simple c.in_ok-command_with_flag.ensures c.in_ok-matches.ensures.kinds
    c.in_ok-matches.ensures.matches
    ∙ asks_nothing (rows_of (found_of c.in_ok-matches.matches)) c.value_of.result c.value_of.ensures c.in-None.is
