use Rattle.std.proofs.Common.{◌∙◌, sym, arith, ◌<◌}
use Rattle.refusing.proofs.SightLemmas.{behind_no_word}
use Rattle.refusing.proofs.sight.behind_words.Goals as goal

pub returns-in-None-clause-rest : goal.returns-in-None-clause-rest
returns-in-None-clause-rest c =
    let some : 0 < c.loop-left.left = grind arith in
    sym (behind_no_word c.loop-left.left c.loop-left.rest.now some c.in-None.ensures.first) ∙ c.loop-left.invariant.0
