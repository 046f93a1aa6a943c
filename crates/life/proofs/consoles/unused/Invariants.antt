use Rattle.std.proofs.Common.{◌≡◌, replicate}
use Rattle.posix.specs.Common.{unused_console}
use Rattle.life.proofs.consoles.unused.Given as goal

abbrev pub invariant-loop : goal.invariant-loop
invariant-loop l = l.consoles.items ≡ replicate l.counter unused_console
