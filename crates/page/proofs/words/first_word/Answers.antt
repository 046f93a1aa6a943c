use Rattle.std.proofs.Common.{◌+◌, ◌-◌, take, drop, length, refl}
use Rattle.page.proofs.WordLemmas.{first_cut, no_first_text, not_ended}
use Rattle.page.proofs.words.first_word.Goals as goal

pub returns-in_default-clause-err : goal.returns-in_default-clause-err
returns-in_default-clause-err c = not_ended c.args.text.now c.in_default.ensures

pub returns-in-Ok-clause-ok : goal.returns-in-Ok-clause-ok
returns-in-Ok-clause-ok c = first_cut c.args.text.now c.in-Ok.word.now _ c.in-Some.end c.in-Some.ensures c.in-Ok.ensures.cases.0 refl

pub returns-in-Err-clause-err : goal.returns-in-Err-clause-err
returns-in-Err-clause-err c = λ some.
    let text = c.args.text.now in
    let end = c.in-Some.end in
    let rest = take (length text - (end + 1)) (drop (end + 1) text) in
    no_first_text text (take end text) rest (first_cut text (take end text) rest end c.in-Some.ensures refl refl) c.in-Err.ensures.cases.0
