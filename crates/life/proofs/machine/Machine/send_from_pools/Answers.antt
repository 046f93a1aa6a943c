use Rattle.std.proofs.Common.{subst, sym, List, rules, ap, refl, true, ◌∙◌, arith, ◌+◌, ◌≤◌, filter, length}
use Rattle.std.proofs.Math.Nat.{mul-le-mul_left}
use Rattle.posix.specs.Common.{permitted, queuers, queuers_among, sending, sent, number_of, Process}
use Rattle.posix.proofs.TableLemmas.{length_removed}
use Rattle.posix.specs.declared.target.Target.{Target}
use Rattle.life.specs.Queues.{HaveRoom}
use Rattle.life.specs.Rechecks.{slots_of_send, is_candidate}
use Rattle.life.specs.Callers.{process_like}
use Rattle.life.proofs.SendLemmas.{all_pass, targets_numbered, targets_nobody, sent_nobody, rechecked_nobody}
use Rattle.life.proofs.machine.Machine.send_from_pools.Goals as goal

pub send_to_number-requires : goal.send_to_number-requires
unfolding queuers_among
send_to_number-requires g c =
    let r = process_like c.args.me.now in
    let k = number_of c.args.signal in
    let rs = c.args.self.now.state.processes in
    let pools = (g.S.Pools.pools c.args.pools.now) in
    record {
      room =
          subst (λ (l : List Process). HaveRoom pools (queuers k (permitted r k l))) (sym (targets_numbered r c.in-Process.pid rs))
          (subst (λ (x : Target). HaveRoom pools (queuers_among r x k rs)) c.in-Process.is c.requires.room);
    }

pub returns-in-Process-clause-sending : goal.returns-in-Process-clause-sending
unfolding sending
returns-in-Process-clause-sending g c = rw (c.in-Process.is, ← targets_numbered (process_like c.args.me.now) c.in-Process.pid c.args.self.now.state.processes) c.send_to_number.ensures.sending

-- process 1 is there
pub returns-in-Process-clause-changes : goal.returns-in-Process-clause-changes
unfolding sent
returns-in-Process-clause-changes g c =
    let me = process_like c.args.me.now in
    let rs = c.args.self.now.state.processes in
    let changes = c.send_to_number.ensures.changes in
    let first = changes.costs.regular.first in
    let some = length_removed 1 first.what rs changes.costs.regular.rising first.found in
    let all = ap (λ x. length (filter (is_candidate me x) rs)) c.in-Process.is ∙ ap length (all_pass (λ r. true) (λ r. refl) rs) in
    let least : 1 ≤ length (filter (is_candidate me c.args.target) rs) = omega (arith, some, all) in
    let product = mul-le-mul_left (2 + slots_of_send (number_of c.args.signal)) least in
    record {
      state = rw (c.in-Process.is, ← targets_numbered me c.in-Process.pid rs) changes.state;
      to_recheck = rw (c.in-Process.is, ← targets_numbered me c.in-Process.pid rs) changes.to_recheck;
      foregrounds_unchecked = changes.foregrounds_unchecked;
      costs = record { visits = omega (arith, product, changes.costs.visits); no_fewer = changes.costs.no_fewer; groups_at_risk = changes.costs.groups_at_risk; regular = changes.costs.regular };
    }

pub returns-in-Nobody-clause-sending : goal.returns-in-Nobody-clause-sending
unfolding sending
returns-in-Nobody-clause-sending g c = rw (c.in-Nobody.is, targets_nobody (process_like c.args.me.now) c.args.self.now.state.processes) refl

pub returns-in-Nobody-clause-changes : goal.returns-in-Nobody-clause-changes
unfolding sent
returns-in-Nobody-clause-changes g c =
    let nobody = targets_nobody (process_like c.args.me.now) c.args.self.now.state.processes in
    record { state = rw (c.in-Nobody.is, nobody, sent_nobody) refl; to_recheck = rw (c.in-Nobody.is, nobody, rechecked_nobody) refl; foregrounds_unchecked = refl; costs = search rules }
