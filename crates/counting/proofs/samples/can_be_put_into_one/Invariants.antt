use Rattle.std.proofs.Common.{map, take}
use Rattle.std.specs.List.{All}
use Rattle.counting.specs.Samples.{IsWithoutIn}
use Rattle.counting.proofs.samples.can_be_put_into_one.Given as goal

-- No line that matches was found so far.
abbrev pub invariant-loop-words : goal.invariant-loop-words
invariant-loop-words l = All (λ s. IsWithoutIn l.pattern (map (λ w. w.now) s.now)) (take l.words-index l.samples)
