use Rattle.std.proofs.Common.{◌≡◌, ◌∙◌, [], Bor, List, None, Option, Some, ap, option_map, refl, unwrap_or, ℕ}
use Rattle.std.proofs.lemmas.Iterator.Consumers.{YieldsList-from_first, nth_from_yields_List}
use Rattle.text.specs.Words.{words}
use Rattle.judging.proofs.lines.Line.word.Goals as goal

or_empty : (o : Option (Bor (List ℕ))) (d : Bor (List ℕ)) → (unwrap_or o d).now ≡ unwrap_or (option_map (λ w. w.now) o) d.now
or_empty None d = refl
or_empty (Some w) d = refl

pub returns : goal.returns
returns c =
    let at = nth_from_yields_List c.nth.result c.nth.new.self _ c.nth.ensures.ran (YieldsList-from_first (λ w. w.now) (λ s. words s.0.now) _ refl) in
    ap (λ w. w.now) c.unwrap_or.ensures ∙ or_empty c.nth.result _ ∙ ap (λ (o : Option (List ℕ)). unwrap_or o []) at
