use Rattle.std.proofs.Common.{◌≡◌, map, take}
use Rattle.std.specs.String.{string_bytes}
use Rattle.commands.specs.Named.{over_texts}
use Rattle.commands.proofs.named.words_over_texts.Given as goal

abbrev pub invariant-loop-option : goal.invariant-loop-option
invariant-loop-option l = map (λ w. w.now) l.words.items ≡ over_texts l.command (map string_bytes (take l.option-index l.options))
