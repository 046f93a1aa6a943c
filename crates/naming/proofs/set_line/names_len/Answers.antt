use Rattle.std.proofs.Common.{◌∙◌, ℕ, ap, length, Option, rules, tests}
use Rattle.std.specs.Prelude.{not, unwrap_or}
use Rattle.std.proofs.lemmas.Iterator.Search.{position_from_yields_List}
use Rattle.std.proofs.lemmas.Iterator.{YieldsList-from_slice}
use Rattle.text.proofs.WordLemmas.{first_or_end}
use Rattle.naming.specs.Sets.{is_in_names}
use Rattle.naming.proofs.set_line.names_len.Goals as goal

pub returns-clause-len : goal.returns-clause-len
returns-clause-len c =
    let at = position_from_yields_List (λ b. not (is_in_names b)) _ _ c.position.result c.position.ensures.ran (YieldsList-from_slice c.args.text.now cc) (λ x b q k. search (rules, tests)) in
    c.unwrap_or.ensures ∙ ap (λ (o : Option ℕ). unwrap_or o (length c.args.text.now)) at ∙ first_or_end (λ b. not (is_in_names b)) c.args.text.now
