use Rattle.std.proofs.Common.{◌≡◌, ◌⊎◌, ℕ}
use Rattle.pidset.specs.Rows.{sizes_of}
use Rattle.pidset.specs.Lists.{AreLinked, IsAbove, list_of, before_of}
use Rattle.pidset.proofs.lists.move_all.Given as goal

-- each process is where it was, or was moved; all that are left are at most the next one
abbrev pub invariant-loop-from : goal.invariant-loop-from
invariant-loop-from l =
    let old = l.fn.nodes in
    let now = l.nodes in
    record {
      sizes : sizes_of now ≡ sizes_of old;
      linked : AreLinked now;
      list : (i : ℕ) → (list_of now i ≡ list_of old i) ⊎ ((list_of old i ≡ l.from) × (list_of now i ≡ l.to));
      next : before_of now l.from 0 ≡ l.next;
      above : IsAbove now l.to l.next l.above;
    }

abbrev pub decreases-loop-from : goal.decreases-loop-from
decreases-loop-from l = l.next
