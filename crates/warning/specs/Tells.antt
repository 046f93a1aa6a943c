-- What a warning says about a program.
use Rattle.std.specs.Prelude.{◌≡◌, ℕ, ◌+◌, pos, List}
use Rattle.posix.specs.declared.instr.Instr.{Instr}
use Rattle.warning.specs.Ways.{NeverLeaves}
use Rattle.warning.specs.declared.warnings.Warning.{Warning}
use Rattle.warning.specs.declared.warnings.Warning.TheVariants.{NumberForSet, NoReturn, HandlerOfAnother, Exchanged}

-- From the handler in a warning `NoReturn`, a process reaches no call that leaves a handler.
abbrev pub Tells : List Instr → Warning → Type 0
Tells program (NumberForSet call sig) = Unit {0}
Tells program (NoReturn sig address) = (place : ℕ) → address ≡ pos (place + 16) → NeverLeaves program place
Tells program (HandlerOfAnother sig other) = Unit {0}
Tells program (Exchanged registers word outside) = Unit {0}
