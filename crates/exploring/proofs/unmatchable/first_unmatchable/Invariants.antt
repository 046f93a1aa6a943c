use Rattle.std.proofs.Common.{take}
use Rattle.std.specs.List.{All}
use Rattle.counting.specs.Samples.{CanBeShown}
use Rattle.exploring.proofs.unmatchable.first_unmatchable.Given as goal

-- So far a line can match each text.
abbrev pub invariant-loop-text : goal.invariant-loop-text
invariant-loop-text l = All (λ t. CanBeShown t.now) (take l.text-index l.texts)
