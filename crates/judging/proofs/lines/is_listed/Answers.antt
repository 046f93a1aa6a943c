use Rattle.std.proofs.Common.{bytes_eq, rules, tests}
use Rattle.std.proofs.lemmas.Iterator.Search.{any_from_yields_List}
use Rattle.std.proofs.lemmas.Iterator.Consumers.{YieldsList-from_first}
use Rattle.text.specs.Words.{words}
use Rattle.judging.proofs.lines.is_listed.Goals as goal

pub returns : goal.returns
returns c = any_from_yields_List (λ listed. bytes_eq listed c.args.word.now) c.any.new.self _ _ c.any.ensures.ran
    (YieldsList-from_first (λ w. w.now) (λ s. words s.0.now) (words c.args.list.now) cc) (λ x b q k. search (rules, tests))
