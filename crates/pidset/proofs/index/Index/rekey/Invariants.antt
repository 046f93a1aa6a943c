use Rattle.std.proofs.Common.{◌≡◌, ◌≢◌, ◌-◌, ◌||◌, ◌&&◌, ◌==◌, not, ℕ, true}
use Rattle.std.specs.Option.{option_map_or}
use Rattle.pidset.specs.Indexes.{ArePairs, IsNextPair, is_pair_in}
use Rattle.pidset.proofs.index.Index.rekey.Given as goal

-- the processes that lost the one key have the other, and the next process is the first that still has the one
abbrev pub invariant-loop-next : goal.invariant-loop-next
invariant-loop-next l =
    let old = l.fn.self.pairs in
    let now = l.self.pairs in
    record {
      room : l.self.room ≡ l.fn.self.room;
      once : ArePairs now;
      among : (p : ℕ) → is_pair_in l.from p now ≡ true → is_pair_in l.from p old ≡ true;
      moved : (k p : ℕ) → k ≢ l.from → is_pair_in k p now ≡ (is_pair_in k p old || k == l.to && is_pair_in l.from p old && not (is_pair_in l.from p now));
      next : IsNextPair l.from 0 now l.next;
    }

abbrev pub decreases-loop-next : goal.decreases-loop-next
decreases-loop-next l = option_map_or (λ c. 4294967296 - c) l.next 0
