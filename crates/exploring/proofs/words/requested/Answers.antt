use Rattle.std.proofs.Common.{◌≡◌, ◌∙◌, ap, map, List}
use Rattle.clap.specs.Words.{Text}
use Rattle.inputs.proofs.RequestLemmas.{asked_alike, refused_words, taken_words, told_refused}
use Rattle.exploring.specs.Words.{asked_by_parts, asked_in, asked_of, command_line, parted_as, said}
use Rattle.exploring.proofs.WordLemmas.{is_simple, whole_words}
use Rattle.exploring.proofs.words.requested.Goals as goal

pub returns-in_err-matches : goal.returns-in_err-matches
returns-in_err-matches c =
    let p = parted_as c.args.parts.now in
    let others : List Text = map (λ w. w.now) c.as_slice.result.now in
    let same : others ≡ p.others = ap (map (λ w. w.now)) c.as_slice.ensures.value in
    let is_asked : asked_by_parts p ≡ asked_of p.finds p.anywhere others = whole_words p others c.if-is_text.ensures same in
    rw is_asked
    (told_refused c.from_residual-in_err-matches.result _ (asked_of p.finds p.anywhere others) c.in_err-matches.field-0.0 c.from_residual-in_err-matches.ensures.1
    (refused_words _ command_line others c.in_err-matches.field-0.0 _ is_simple c.in_ok-command_line.ensures c.in_err-matches.ensures.kinds))

pub returns : goal.returns
returns c =
    let p = parted_as c.args.parts.now in
    let others : List Text = map (λ w. w.now) c.as_slice.result.now in
    let same : others ≡ p.others = ap (map (λ w. w.now)) c.as_slice.ensures.value in
    asked_alike said c.request_of.result _ (asked_by_parts p)
    (whole_words p others c.if-is_text.ensures same
    ∙ taken_words _ command_line others c.in_ok-matches.matches (asked_in p.finds p.anywhere) is_simple c.in_ok-command_line.ensures c.in_ok-matches.ensures.kinds
    c.in_ok-matches.ensures.matches)
    (rw (c.as_slice-2.ensures.value, c.as_slice-3.ensures.value) at c.request_of.ensures)
