use Rattle.std.proofs.Common.{◌≡◌, [], ◌+◌, ◌≤◌, ℕ, true, false, Some, None, filter, length}
use Rattle.std.specs.Option.{IfSome, IsSome}
use Rattle.posix.specs.Common.{Process, IsRising, lookup, has_alarms, is_due}
use Rattle.posix.proofs.WalkLemmas.{numbers_left}
use Rattle.life.proofs.RingLemmas.{IsRinging, IsTakingBelow}
use Rattle.life.proofs.machine.Machine.ring_all.Given as goal

-- those below the next one have rung
abbrev pub invariant-loop-next : goal.invariant-loop-next
invariant-loop-next g l =
    let now = l.self.state in let first = l.fn.self.state in
    record {
      there : IfSome l.next (λ p. IsSome (lookup p now.processes));
      ringing : IsRinging (first.ticks + 1) first.processes now.processes l.next;
      rising : IsRising now.processes;
      due : (p : ℕ) (r : Process) → l.next ≡ Some p → lookup p now.processes ≡ Some r → is_due (first.ticks + 1) r.alarm ≡ true;
      costs : l.self.visits + length (filter (λ r. is_due (first.ticks + 1) r.alarm) now.processes) ≤ l.fn.self.visits + length (filter (λ r. is_due (first.ticks + 1) r.alarm) first.processes);
      no_fewer : l.fn.self.visits ≤ l.self.visits;
      groups_at_risk : l.self.groups_at_risk ≡ l.fn.self.groups_at_risk;
      foregrounds_unchecked : l.self.foregrounds_unchecked ≡ l.fn.self.foregrounds_unchecked;
      rest : now ≡ record first { processes = now.processes };
      taking : l.fn.self.to_recheck ≡ [] → IsTakingBelow l.next now.processes l.self.to_recheck × (length l.self.to_recheck + length (filter (λ r. is_due (first.ticks + 1) r.alarm) now.processes) ≤ length (filter (λ r. is_due (first.ticks + 1) r.alarm) first.processes));
      quiet : has_alarms first ≡ false → (l.next ≡ None) × (l.self ≡ l.fn.self);
    }

abbrev pub decreases-loop-next : goal.decreases-loop-next
decreases-loop-next g l = numbers_left 2147483648 l.next
