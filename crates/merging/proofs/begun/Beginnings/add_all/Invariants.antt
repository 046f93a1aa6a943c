use Rattle.std.proofs.Common.{◌≡◌, ◌⊎◌, ℕ, length}
use Rattle.counting.specs.Tallies.{both}
use Rattle.merging.specs.declared.search.Search.{Search}
use Rattle.merging.specs.Merging.{AllBegun, HasSome, Outlook, Point, slots_tally}
use Rattle.merging.proofs.begun.Beginnings.add_all.Given as goal

-- Both together have the same beginnings as before.
abbrev pub invariant-loop-slot : goal.invariant-loop-slot
invariant-loop-slot l = record {
  tally : (go_on : Outlook) (most : ℕ) (p : Point) → both (slots_tally go_on most p l.self) (slots_tally go_on most p l.other) ≡ both (slots_tally go_on most p l.fn.self) (slots_tally go_on most p l.fn.other);
  all : (s : Search) (place fewest : ℕ) (p : Point) → AllBegun s place fewest p l.fn.self → AllBegun s place fewest p l.fn.other → AllBegun s place fewest p l.self × AllBegun s place fewest p l.other;
  some : HasSome l.fn.other → HasSome l.self ⊎ HasSome l.other;
}

abbrev pub decreases-loop-slot : goal.decreases-loop-slot
decreases-loop-slot l = length l.other
