use Rattle.std.proofs.Common.{◌≡◌, length, map}
use Rattle.page.specs.Words.{behind, words_of}
use Rattle.page.proofs.words.words_in.Given as goal

abbrev pub invariant-loop-rest : goal.invariant-loop-rest
invariant-loop-rest l = words_of l.fn.text ≡ behind (map (λ w. w.now) l.words.items) (words_of l.rest)

abbrev pub decreases-loop-rest : goal.decreases-loop-rest
decreases-loop-rest l = length l.rest
