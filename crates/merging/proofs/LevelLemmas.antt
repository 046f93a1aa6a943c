-- While the nodes before an event advance, one after the other.
use Rattle.std.proofs.Common.{◌≡◌, ℕ, ◌+◌, ◌<◌, ◌≤◌, ◌&&◌, true, if◌then◌else◌, nat_lt, nat_le, arith}
use Rattle.merging.specs.Merging.{Bound, without_spots}

-- Of so many nodes, those before this index have advanced. Further nodes have one spot more, too.
abbrev pub advanced : ℕ → ℕ → ℕ → ℕ → Bound
advanced spots index count j = record { fewest = if nat_le index j && nat_lt j count then spots else spots + 1; some = true }

pub not_advanced : (spots index count j : ℕ) → index ≤ j → j < count → (advanced spots index count j).fewest ≡ spots
not_advanced spots index count j from within = grind arith

pub all_advanced : (spots index count j : ℕ) → count ≤ index → (advanced spots index count j).fewest ≡ spots + 1
all_advanced spots index count j past = grind arith

pub advanced_most : (spots index count j : ℕ) → (advanced spots index count j).fewest ≤ spots + 1
advanced_most spots index count j = grind arith

pub advanced_more : (spots index count j : ℕ) → (advanced spots (index + 1) count j).fewest ≤ (without_spots spots index (advanced spots index count) j).fewest
advanced_more spots index count j = grind arith
