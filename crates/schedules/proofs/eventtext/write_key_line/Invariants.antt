use Rattle.std.proofs.Common.{◌≡◌, ◌++◌, take}
use Rattle.std.specs.String.{string_bytes}
use Rattle.schedules.proofs.AddLemmas.{keys_begun}
use Rattle.schedules.proofs.eventtext.write_key_line.Given as goal

abbrev pub invariant-loop-byte : goal.invariant-loop-byte
invariant-loop-byte l = string_bytes l.text ≡ string_bytes l.fn.text ++ keys_begun l.fn.console (take l.byte-index l.bytes)
