use Rattle.std.proofs.Common.{rules, arith, ◌≡◌, ◌∙◌, ◌++◌, ◌∷◌, Some, ap, codes, refl}
use Rattle.std.proofs.lemmas.Str.Pattern.{split_parts}
use Rattle.commands.proofs.options.read_any.Goals as goal

pub returns-then-eq-clause-event : goal.returns-then-eq-clause-event
returns-then-eq-clause-event c =
    let parts = split_parts 61 c.args.word.now (Some (c.in-Some.name, c.in-Some.text)) c.in-Some.ensures.cases (omega arith) in
    let name_is : c.in-Some.name.now ≡ codes "--anywhere" = search rules in
    let word_is = parts.0 ∙ ap (λ name. name ++ 61 ∷ c.in-Some.text.now) name_is in
    (word_is, rw word_is refl)
