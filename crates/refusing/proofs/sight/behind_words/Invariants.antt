use Rattle.std.proofs.Common.{◌≡◌, ◌≤◌, length}
use Rattle.refusing.specs.Sights.{behind_words}
use Rattle.refusing.proofs.sight.behind_words.Given as goal

abbrev pub invariant-loop-left : goal.invariant-loop-left
invariant-loop-left l = (behind_words l.left l.rest ≡ behind_words l.count l.text) × (length l.rest ≤ length l.text)

abbrev pub decreases-loop-left : goal.decreases-loop-left
decreases-loop-left l = l.left
