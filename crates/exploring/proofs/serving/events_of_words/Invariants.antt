use Rattle.std.proofs.Common.{◌≡◌, Some, map, take}
use Rattle.exploring.specs.Words.{loose_asked}
use Rattle.exploring.proofs.serving.events_of_words.Given as goal

abbrev pub invariant-loop-word : goal.invariant-loop-word
invariant-loop-word l = loose_asked l.consoles (map (λ w. w.now) (take l.word-index l.words)) ≡ Some l.loose.items
