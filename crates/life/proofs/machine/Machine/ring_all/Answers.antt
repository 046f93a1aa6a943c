use Rattle.std.proofs.Common.{◌≡◌, ℕ, ◌+◌, ap, sym, ◌∙◌, subst, refl, arith, filter, length, true, Option}
use Rattle.std.proofs.Math.Nat.{le_refl, le_trans}
use Rattle.std.specs.Option.{IfSome, IsSome}
use Rattle.posix.specs.Common.{Process, IsNext, lookup, changed, State, process, is_due, ring_at}
use Rattle.posix.proofs.MemberLemmas.{in_none}
use Rattle.life.specs.Rechecks.{rechecking_by_signals}
use Rattle.posix.proofs.ResultLemmas.{there}
use Rattle.life.proofs.RingLemmas.{IsRinging, IsTakingBelow, taking_on, fewer_due, ringing_begins, ringing_on, ringing_ends}
use Rattle.life.proofs.machine.Machine.ring_all.Goals as goal

pub loop-next-init : goal.loop-next-init
loop-next-init g c =
    let n = c.next_due-next.ensures in
    record {
      there = n.next.there;
      ringing = ringing_begins (c.args.self.now.state.ticks + 1) c.args.self.now.state.processes _ (λ p r e. (n.regular.bounded p r e).least) n.next;
      rising = n.regular.rising;
      due = n.due;
      costs = omega arith;
      no_fewer = le_refl _;
      groups_at_risk = refl;
      foregrounds_unchecked = refl;
      rest = refl;
      taking = λ none. rw none (record { taking = λ q e. absurd (in_none q e); below = λ q e. absurd (in_none q e) }, omega arith);
      quiet = λ q. (n.quiet q, refl);
    }

pub loop-next-preserved : goal.loop-next-preserved
loop-next-preserved g c =
    let first = c.args.self.now.state in
    let s = c.loop-next.self.state in
    let t = c.ring.new.self.state in
    let pid = c.in-Some.pid in
    let h = c.loop-next.invariant in
    let it = there (lookup pid s.processes) (subst (λ (o : Option ℕ). IfSome o (λ q. IsSome (lookup q s.processes))) c.in-Some.is h.there) in
    let tick : s.ticks + 1 ≡ first.ticks + 1 = ap (λ (t : State). t.ticks + 1) h.rest in
    let rung = c.ring.ensures.state ∙ ap (λ n. record s { processes = changed pid (ring_at n) s.processes }) tick in
    let now : t.ticks + 1 ≡ first.ticks + 1 = ap (λ (t : State). t.ticks + 1) rung ∙ tick in
    let n = c.next_due-next-in-Some.ensures in
    let next = subst (λ k. IsNext (λ (r : Process). is_due k r.alarm) pid t.processes c.next_due-next-in-Some.result) now n.next in
    let fewer = fewer_due (first.ticks + 1) pid s.processes it.what it.found (h.due pid it.what c.in-Some.is it.found) in
    let left = ap (λ (t : State). length (filter (λ (r : Process). is_due (first.ticks + 1) r.alarm) t.processes)) rung in
    record {
      there = n.next.there;
      ringing = subst (λ (t : State). IsRinging (first.ticks + 1) first.processes t.processes c.next_due-next-in-Some.result) (sym rung)
          (ringing_on (first.ticks + 1) pid first.processes s.processes _ it.what it.found
          (subst (λ (t : State). IsNext (λ (r : Process). is_due (first.ticks + 1) r.alarm) pid t.processes c.next_due-next-in-Some.result) rung next)
          (subst (λ (o : Option ℕ). IsRinging (first.ticks + 1) first.processes s.processes o) c.in-Some.is h.ringing));
      rising = n.regular.rising;
      due = λ p r e found. subst (λ k. is_due k r.alarm ≡ true) now (n.due p r e found);
      costs = omega (arith, fewer, left, c.ring.ensures.costs.visits, h.costs);
      no_fewer = le_trans h.no_fewer c.ring.ensures.costs.no_fewer;
      groups_at_risk = c.ring.ensures.costs.groups_at_risk ∙ h.groups_at_risk;
      foregrounds_unchecked = c.ring.ensures.foregrounds_unchecked ∙ h.foregrounds_unchecked;
      rest = rung ∙ ap (λ (t : State). record t { processes = changed pid (ring_at (first.ticks + 1)) s.processes }) h.rest ∙ ap (λ rs. record first { processes = rs }) (sym (ap (λ (t : State). t.processes) rung));
      taking = λ none.
          let t_is = ap (λ (t : State). t.processes) rung in
          let was = h.taking none in
          let list = c.ring.ensures.to_recheck ∙ ap (λ (t : State). rechecking_by_signals (process t pid) s.order c.loop-next.self.to_recheck) rung in
          let on = taking_on (first.ticks + 1) pid c.next_due-next-in-Some.result s.order s.processes _ _ (subst (λ o. IsTakingBelow o s.processes c.loop-next.self.to_recheck) c.in-Some.is was.0) n.next.above list in
          (subst (λ ts. IsTakingBelow c.next_due-next-in-Some.result ts c.ring.new.self.to_recheck) (sym t_is) on.0, omega (arith, fewer, left, on.1, was.1));
      quiet = λ q. let none = sym (h.quiet q).0 ∙ c.in-Some.is in absurd (cc);
    }

pub returns-clause-state : goal.returns-clause-state
returns-clause-state g c =
    let first = c.args.self.now.state in
    let h = c.loop-next.invariant in
    let ends = subst (λ (o : Option ℕ). IsRinging (first.ticks + 1) first.processes c.loop-next.self.state.processes o) c.in_default.is h.ringing in
    h.rest ∙ ap (λ rs. record first { processes = rs }) (ringing_ends (first.ticks + 1) first.processes c.loop-next.self.state.processes h.rising ends)
