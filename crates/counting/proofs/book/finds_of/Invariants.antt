use Rattle.std.proofs.Common.{◌≡◌, map, take}
use Rattle.counting.specs.Books.{unseen}
use Rattle.counting.proofs.book.finds_of.Given as goal

abbrev pub invariant-loop-text : goal.invariant-loop-text
invariant-loop-text l = l.finds.items ≡ map (λ t. unseen t.now) (take l.text-index l.texts)
