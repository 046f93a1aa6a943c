use Rattle.std.proofs.Common.{◌∙◌, ℕ, ap, length, Option, rules, tests}
use Rattle.std.specs.Prelude.{unwrap_or}
use Rattle.std.proofs.lemmas.Iterator.Search.{position_from_yields_List}
use Rattle.std.proofs.lemmas.Iterator.{YieldsList-from_slice}
use Rattle.text.proofs.WordLemmas.{first_or_end}
use Rattle.naming.specs.Names.{divides}
use Rattle.naming.proofs.number.name_len.Goals as goal

pub returns-clause-len : goal.returns-clause-len
returns-clause-len c =
    let at = position_from_yields_List (divides c.args.form) _ _ c.position.result c.position.ensures.ran (YieldsList-from_slice c.args.names.now cc) (λ x b q k. search (rules, tests)) in
    c.unwrap_or.ensures ∙ ap (λ (o : Option ℕ). unwrap_or o (length c.args.names.now)) at ∙ first_or_end (divides c.args.form) c.args.names.now
