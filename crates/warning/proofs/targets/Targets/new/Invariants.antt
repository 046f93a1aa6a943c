use Rattle.std.proofs.Common.{◌≡◌, length, take}
use Rattle.warning.specs.Targets.{AreTold}
use Rattle.warning.proofs.targets.Targets.new.Given as goal

abbrev pub invariant-loop-place : goal.invariant-loop-place
invariant-loop-place l = record {
  len : length l.targets.are_targets.items ≡ length l.fn.program.instructions;
  told : AreTold l.fn.program.instructions (take l.place l.fn.program.instructions) l.targets.are_targets.items;
}
