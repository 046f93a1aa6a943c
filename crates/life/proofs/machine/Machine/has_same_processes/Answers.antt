use Rattle.std.proofs.Common.{◌≡◌, ◌<◌, ◌∙◌, ℕ, ap, sym, refl, subst, arith, Option, Some, option_map}
use Rattle.std.proofs.Math.Nat.{le_trans}
use Rattle.std.specs.Option.{IfSome}
use Rattle.posix.specs.Common.{is_living, State, lookup, next_above}
use Rattle.posix.proofs.WalkLemmas.{least_is_next}
use Rattle.posix.proofs.PassingLemmas.{left_at_most}
use Rattle.posix.proofs.ResultLemmas.{is_there}
use Rattle.times.specs.Times.{later, all_later}
use Rattle.jobs.proofs.ReadLemmas.{fewer_after}
use Rattle.jobs.proofs.SnapshotLemmas.{equals}
use Rattle.life.proofs.ViewLemmas.{same_then}
use Rattle.life.proofs.SamenessLemmas.{all_are_left, at_next, left_begins, less_behind, same_behind}
use Rattle.life.proofs.machine.Machine.has_same_processes.Goals as goal

pub loop-next-init : goal.loop-next-init
loop-next-init g c =
    let s = c.args.self.now.state in
    let t = c.args.other.now.state in
    let next = c.next_after-next.result in
    let their_next = c.next_after-their_next.result in
    let mine = c.next_after-next.ensures in
    let others = c.next_after-their_next.ensures in
    record {
      mine = mine.looks.same;
      others = others.looks.same;
      begins = left_begins 0 s.processes next mine.value;
      others_begin = left_begins 0 t.processes their_next others.value;
      read = omega (arith, left_at_most next s.processes, mine.looks.visits);
      others_read = omega (arith, left_at_most their_next t.processes, others.looks.visits);
      no_fewer = mine.looks.no_fewer;
      others_no_fewer = others.looks.no_fewer;
      same = λ e. sym (all_are_left t their_next others.looks.regular others.value) ∙ e ∙ ap (all_later c.args.delay) (all_are_left s next mine.looks.regular mine.value);
    }

pub has_same_process-requires-clause-here : goal.has_same_process-requires-clause-here
has_same_process-requires-clause-here g c =
    let i = c.loop-next.invariant in
    let p = c.in-Some.pid in
    let here = at_next p c.args.self.now.state.processes c.loop-next.next c.next_after-next.ensures.looks.regular.rising c.in-Some.is i.begins in
    is_there _ here.what (ap (λ (s : State). lookup p s.processes) i.mine.state ∙ here.found)

pub has_same_process-requires-clause-there : goal.has_same_process-requires-clause-there
has_same_process-requires-clause-there g c =
    let i = c.loop-next.invariant in
    let p = c.in-Some.pid in
    let equal = equals p c.in-Some-their_next.their_pid (sym c.ne.ensures ∙ c.if-ne.false) in
    let there = at_next p c.args.other.now.state.processes c.loop-next.their_next c.next_after-their_next.ensures.looks.regular.rising (c.in-Some-their_next.is ∙ ap Some (sym equal)) i.others_begin in
    is_there _ there.what (ap (λ (s : State). lookup p s.processes) i.others.state ∙ there.found)

pub loop-next-smaller : goal.loop-next-smaller
loop-next-smaller g c =
    let above = least_is_next is_living c.in-Some.pid _ c.next_after-next-in-Some.ensures.looks.regular.rising in
    let after = subst (λ (o : Option ℕ). IfSome o (λ q. c.in-Some.pid < q)) (sym c.next_after-next-in-Some.ensures.value) above.above in
    fewer_after c.in-Some.pid (omega arith) _ _ c.in-Some.is after

pub loop-next-preserved : goal.loop-next-preserved
loop-next-preserved g c =
    let i = c.loop-next.invariant in
    let p = c.in-Some.pid in
    let rs = c.args.self.now.state.processes in
    let qs = c.args.other.now.state.processes in
    let now = c.loop-next.next in
    let their_now = c.loop-next.their_next in
    let next = c.next_after-next-in-Some.result in
    let their_next = c.next_after-their_next-in-Some.result in
    let one = c.has_same_process.ensures in
    let mine = c.next_after-next-in-Some.ensures in
    let others = c.next_after-their_next-in-Some.ensures in
    let equal = equals p c.in-Some-their_next.their_pid (sym c.ne.ensures ∙ c.if-ne.false) in
    let their_is : their_now ≡ Some p = c.in-Some-their_next.is ∙ ap Some (sym equal) in
    let here = at_next p rs now c.next_after-next.ensures.looks.regular.rising c.in-Some.is i.begins in
    let there = at_next p qs their_now c.next_after-their_next.ensures.looks.regular.rising their_is i.others_begin in
    let after : next ≡ next_above p rs = mine.value ∙ ap (λ (s : State). next_above p s.processes) (one.mine.same.state ∙ i.mine.state) in
    let their_after : their_next ≡ next_above p qs = others.value ∙ ap (λ (s : State). next_above p s.processes) (one.others.same.state ∙ i.others.state) in
    let found : lookup p qs ≡ option_map (later c.args.delay) (lookup p rs) =
    sym (ap (λ (s : State). lookup p s.processes) i.others.state) ∙ c.if-not-has_same_process.ensures.same refl ∙ ap (λ (s : State). option_map (later c.args.delay) (lookup p s.processes)) i.mine.state in
    record {
      mine = same_then i.mine (same_then one.mine.same mine.looks.same);
      others = same_then i.others (same_then one.others.same others.looks.same);
      begins = left_begins p rs next after;
      others_begin = left_begins p qs their_next their_after;
      read = omega (arith, less_behind p rs now next here c.in-Some.is after, i.read, one.mine.visits, mine.looks.visits);
      others_read = omega (arith, less_behind p qs their_now their_next there their_is their_after, i.others_read, one.others.visits, others.looks.visits);
      no_fewer = le_trans i.no_fewer (le_trans one.mine.no_fewer mine.looks.no_fewer);
      others_no_fewer = le_trans i.others_no_fewer (le_trans one.others.no_fewer others.looks.no_fewer);
      same = λ e. i.same (same_behind c.args.delay p rs qs now next their_now their_next here there c.in-Some.is their_is after their_after found e);
    }
