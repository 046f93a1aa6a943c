use Rattle.std.proofs.Common.{◌≡◌, ◌-◌, ◌^◌, take}
use Rattle.std.specs.Prelude.{min}
use Rattle.posix.specs.Common.{value_of}
use Rattle.posix.proofs.decimal.decimal_value.Given as goal

abbrev pub invariant-loop-b : goal.invariant-loop-b
invariant-loop-b l = l.value ≡ min (value_of (take l.b-index l.digits)) (2 ^ 64 - 1)
