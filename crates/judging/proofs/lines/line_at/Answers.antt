use Rattle.std.proofs.Common.{◌∙◌, ap, refl}
use Rattle.std.specs.List.{slice_get}
use Rattle.std.proofs.lemmas.Iterator.Consumers.{YieldsList-from_first, nth_from_yields_List}
use Rattle.text.specs.Lines.{all_lines}
use Rattle.judging.proofs.lines.line_at.Goals as goal

pub returns : goal.returns
returns c =
    nth_from_yields_List c.nth.result c.nth.new.self _ c.nth.ensures.ran (YieldsList-from_first (λ line. line.now) (λ s. all_lines s.0.now) _ refl)
    ∙ ap (slice_get (all_lines c.args.text.now)) c.saturating_sub.ensures
