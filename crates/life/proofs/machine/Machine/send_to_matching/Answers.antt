use Rattle.std.proofs.Common.{subst, List, ap, sym, ◌∙◌, arith, filter, length, Option, ℕ, ◌+◌, ◌*◌, refl}
use Rattle.std.proofs.Math.Nat.{le_trans, mul-le-mul_left}
use Rattle.posix.specs.declared.process.Sending.TheVariants.{NobodyFound}
use Rattle.posix.specs.Common.{left_of, State, is_target, targets, permitted, queuers, queuers_among, number_of, sending, sent, Process}
use Rattle.posix.proofs.WalkLemmas.{numbered, walk_begins, next_begins, one_here}
use Rattle.posix.proofs.PassingLemmas.{left_at_most}
use Rattle.life.specs.Rechecks.{rechecking_signalled, slots_of_send, is_candidate}
use Rattle.life.specs.Callers.{process_like}
use Rattle.life.specs.Queues.{HaveRoom}
use Rattle.life.proofs.QueueLemmas.{room_here, room_left}
use Rattle.life.proofs.SendLemmas.{blank_sent, candidates_less, Sent, sent_to, sent_on, sent_step, sent_ends}
use Rattle.life.specs.Machines.{with_processes}
use Rattle.jobs.proofs.ReadLemmas.{reads_on}
use Rattle.life.proofs.machine.Machine.send_to_matching.Goals as goal

pub loop-next-init : goal.loop-next-init
unfolding targets queuers_among
loop-next-init g c =
    let s = c.args.self.now.state in
    let r = process_like c.args.me.now in
    let finds = c.next_target-next.ensures.finds in
    let all = walk_begins (is_target r c.args.target.now) s.processes c.next_target-next.result finds.looks.regular.rising (λ p r e. (finds.looks.regular.bounded p r e).least) finds.value in
    rw (finds.looks.same.state, finds.looks.same.to_recheck) record {
      groups_at_risk = finds.looks.same.groups_at_risk;
      foregrounds_unchecked = finds.looks.same.foregrounds_unchecked;
      there = finds.value.there;
      begins = next_begins 0 (filter (is_candidate r c.args.target.now) s.processes) c.next_target-next.result c.next_target-next.ensures.is;
      read =
          let less = left_at_most c.next_target-next.result (filter (is_candidate r c.args.target.now) s.processes) in
          let product = mul-le-mul_left (2 + slots_of_send (number_of c.args.signal.now)) less in
          omega (arith, product, finds.looks.visits);
      no_fewer = finds.looks.no_fewer;
      rising = finds.looks.regular.rising;
      room = subst (λ (l : List Process). HaveRoom (g.S.Pools.pools c.args.pools.now) (queuers (number_of c.args.signal.now) (permitted r (number_of c.args.signal.now) l))) (sym all) c.requires.room;
      rest = refl;
      todo = ap (λ qs. sent_to r c.args.signal.now s.order qs (record { sending = NobodyFound; processes = s.processes; to_recheck = c.args.self.now.to_recheck })) all;
    }

pub send_to_number-requires : goal.send_to_number-requires
send_to_number-requires g c =
    let i = c.loop-next.invariant in
    record {
      room = room_here (g.S.Pools.pools c.loop-next.pools) (process_like c.args.me.now) c.args.target.now (number_of c.args.signal.now) c.in-Some.pid c.loop-next.self.state.processes i.rising
          (subst (λ o. HaveRoom (g.S.Pools.pools c.loop-next.pools) (queuers_among (process_like c.args.me.now) c.args.target.now (number_of c.args.signal.now) (left_of o c.loop-next.self.state.processes))) c.in-Some.is i.room);
    }

pub loop-next-preserved : goal.loop-next-preserved
unfolding sending
loop-next-preserved g c =
    let r = process_like c.args.me.now in
    let target = c.args.target.now in
    let sig = c.args.signal.now in
    let pid = c.in-Some.pid in
    let next = c.next_target-next-in-Some.result in
    let finds = c.next_target-next-in-Some.ensures.finds in
    let changes = c.send_to_number.ensures.changes in
    let i = c.loop-next.invariant in
    let rs = c.loop-next.self.state.processes in
    let mid = c.send_to_number.new.self.state.processes in
    let order = c.args.self.now.state.order in
    let k : Sent = record { sending = c.loop-next.sending; processes = rs; to_recheck = c.loop-next.self.to_recheck } in
    let l : Sent = record { sending = c.max-sending.result; processes = mid; to_recheck = c.send_to_number.new.self.to_recheck } in
    let asked = changes.to_recheck ∙ ap (λ (t : State). rechecking_signalled r sig (targets r target (numbered pid rs)) rs t.order c.loop-next.self.to_recheck) i.rest in
    let sent = sent_on r sig order (targets r target (numbered pid rs)) k c.send_to_number.result c.max-sending.result mid _ c.send_to_number.ensures.sending c.max-sending.ensures (ap (λ (t : State). t.processes) changes.state) asked in
    rw (finds.looks.same.state, finds.looks.same.to_recheck) record {
      groups_at_risk = finds.looks.same.groups_at_risk ∙ changes.costs.groups_at_risk ∙ i.groups_at_risk;
      foregrounds_unchecked = finds.looks.same.foregrounds_unchecked ∙ changes.foregrounds_unchecked ∙ i.foregrounds_unchecked;
      there = finds.value.there;
      begins = next_begins pid (filter (is_candidate r target) mid) next c.next_target-next-in-Some.ensures.is;
      read =
          let at = one_here (is_candidate r target) pid rs c.loop-next.next changes.costs.regular.rising c.in-Some.is i.begins in
          let less = candidates_less r target pid rs mid c.loop-next.next next at c.in-Some.is (blank_sent r sig order _ k l sent) c.next_target-next-in-Some.ensures.is in
          let on = reads_on (1 + slots_of_send (number_of sig)) (length (left_of c.loop-next.next (filter (is_candidate r target) rs))) (length (left_of next (filter (is_candidate r target) mid))) c.loop-next.self.visits c.next_target-next-in-Some.new.self.visits (c.loop-next.self.visits + (1 + (1 + slots_of_send (number_of sig))) * length (left_of c.loop-next.next (filter (is_candidate r target) rs))) (omega (arith, less)) (omega (arith, changes.costs.visits, finds.looks.visits)) (omega arith) in
          omega (arith, on, i.read);
      no_fewer = le_trans i.no_fewer (le_trans changes.costs.no_fewer finds.looks.no_fewer);
      rising = finds.looks.regular.rising;
      room =
          let left = subst (λ o. HaveRoom (g.S.Pools.pools c.loop-next.pools) (queuers_among r target (number_of sig) (left_of o rs))) c.in-Some.is i.room in
          room_left (g.S.Pools.pools c.loop-next.pools) (g.S.Pools.pools c.send_to_number.new.pools) r target sig pid next rs mid changes.costs.regular.rising finds.looks.regular.rising (ap (λ (t : State). t.processes) changes.state) finds.value c.send_to_number.ensures.pools left;
      rest = ap (λ (t : State). with_processes t c.args.self.now.state.processes) changes.state ∙ i.rest;
      todo =
          sent_step r target sig order pid next k l changes.costs.regular.rising finds.looks.regular.rising sent finds.value
          ∙ ap (λ (o : Option ℕ). sent_to r sig order (targets r target (left_of o rs)) k) (sym c.in-Some.is)
          ∙ i.todo;
    }

pub returns : goal.returns
unfolding sending sent
returns g c =
    let r = process_like c.args.me.now in
    let s = c.args.self.now.state in
    let i = c.loop-next.invariant in
    let k : Sent = record { sending = c.loop-next.sending; processes = c.loop-next.self.state.processes; to_recheck = c.loop-next.self.to_recheck } in
    let l : Sent = record { sending = NobodyFound; processes = s.processes; to_recheck = c.args.self.now.to_recheck } in
    let done = sent_ends r c.args.target.now c.args.signal.now s.order c.loop-next.next k l (targets r c.args.target.now s.processes) c.in_default.is i.todo in
    record {
      sending = ap (λ (k : Sent). k.sending) done;
      changes = record {
        state = ap (λ (t : State). with_processes t c.loop-next.self.state.processes) i.rest ∙ ap (λ (k : Sent). with_processes s k.processes) done;
        to_recheck = ap (λ (k : Sent). k.to_recheck) done;
        foregrounds_unchecked = i.foregrounds_unchecked;
        costs = record { visits = omega (arith, i.read); no_fewer = i.no_fewer; groups_at_risk = i.groups_at_risk; regular = c.next_target-next.ensures.finds.looks.regular };
      };
    }
