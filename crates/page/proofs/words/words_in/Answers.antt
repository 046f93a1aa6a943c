use Rattle.std.proofs.Common.{sym, ◌∙◌}
use Rattle.std.proofs.lemmas.Result.{MatchResult-from_err}
use Rattle.audit.proofs.TextLemmas.{some_left}
use Rattle.page.proofs.WordLemmas.{no_text_behind}
use Rattle.page.proofs.words.words_in.Goals as goal

pub returns-in_err-word : goal.returns-in_err-word
returns-in_err-word c =
    MatchResult-from_err c.from_residual.result _ _ c.from_residual.ensures.0
    (λ fault is. no_text_behind c.args.text.now c.loop-rest.rest.now _ c.loop-rest.invariant
    (c.in_err-word.ensures.err (some_left c.loop-rest.rest.now (sym c.is_empty.ensures ∙ c.loop-rest-test.true))))
