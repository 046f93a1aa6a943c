use Rattle.std.proofs.Common.{◌≡◌, ◌||◌, ℕ, true}
use Rattle.posix.specs.Common.{is_in, IsRegular}
use Rattle.posix.proofs.WalkLemmas.{numbers_left}
use Rattle.pidset.specs.Indexes.{IsNextPair, is_pair_in}
use Rattle.life.specs.Machines.{AreWatched}
use Rattle.life.proofs.machine.Machine.recheck_readers.Given as goal

abbrev pub invariant-loop-next : goal.invariant-loop-next
invariant-loop-next g l = record {
  rest : l.self ≡ record (l.fn.self) { to_recheck = l.self.to_recheck; readers = l.self.readers };
  those : (q : ℕ) → is_in q l.self.to_recheck ≡ true → (is_in q l.fn.self.to_recheck || is_pair_in l.session q l.fn.self.readers.pairs) ≡ true;
  fewer : (q : ℕ) → is_pair_in l.session q l.self.readers.pairs ≡ true → is_pair_in l.session q l.fn.self.readers.pairs ≡ true;
  first : IsNextPair l.session 0 l.self.readers.pairs l.next;
  watched : AreWatched l.self;
  regular : IsRegular l.self.state;
}

abbrev pub decreases-loop-next : goal.decreases-loop-next
decreases-loop-next g l = numbers_left 2147483648 l.next
