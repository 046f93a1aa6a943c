use Rattle.std.proofs.Common.{◌≡◌, map, take, fold}
use Rattle.exploring.specs.Words.{nothing_parted, parted_as, with_word}
use Rattle.exploring.proofs.words.parts_of.Given as goal

abbrev pub invariant-loop-word : goal.invariant-loop-word
invariant-loop-word l = parted_as l.parts ≡ fold with_word nothing_parted (map (λ w. w.now) (take l.word-index l.words))
