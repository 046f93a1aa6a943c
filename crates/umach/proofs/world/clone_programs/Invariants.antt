use Rattle.std.proofs.Common.{◌≡◌, take}
use Rattle.umach.proofs.world.clone_programs.Given as goal

abbrev pub invariant-loop-program : goal.invariant-loop-program
invariant-loop-program l = l.copies.items ≡ take l.program-index l.programs
