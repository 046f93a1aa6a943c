use Rattle.std.proofs.Common.{ℕ, ◌<◌, ◌++◌, map}
use Rattle.std.specs.Prelude.{codes}
use Rattle.counting.specs.Samples.{IsWithout, with_pattern}
use Rattle.counting.proofs.samples.can_be_put_into.Given as goal

-- No line that matches was found so far.
abbrev pub invariant-loop-skipped : goal.invariant-loop-skipped
invariant-loop-skipped l = (k : ℕ) → k < l.skipped → IsWithout l.pattern (codes "1" ++ with_pattern l.pattern k (map (λ w. w.now) l.words))
