use Rattle.std.proofs.Common.{ℕ, ◌<◌}
use Rattle.warning.specs.Ways.{IsKnownAt}
use Rattle.warning.proofs.ways.Ways.are_known.Given as goal

abbrev pub invariant-loop-place : goal.invariant-loop-place
invariant-loop-place l = (place : ℕ) → place < l.place → IsKnownAt l.fn.program.instructions l.fn.self.ways.items place
