use Rattle.std.proofs.Common.{◌≡◌, ◌≤◌, ◌+◌, ap, sym, ◌∙◌, arith, subst, true, false, refl, rules, [], ◌∷◌, length, Option, Some}
use Rattle.posix.specs.declared.process.PendingSignal.{PendingSignal}
use Rattle.posix.specs.Common.{Process, process, may, generated_for, number_of, queuers, sending_permitted, sent_among}
use Rattle.posix.proofs.TableLemmas.{pid_looked}
use Rattle.proctable.specs.Records.{snapshot_of}
use Rattle.life.specs.Callers.{process_like}
use Rattle.life.specs.Machines.{Costs, with_processes}
use Rattle.life.specs.Queues.{HaveRoom}
use Rattle.life.specs.Rechecks.{rechecking_generated, rechecking_signalled, slots_of_send}
use Rattle.life.proofs.QueueLemmas.{permitted_one, permitted_none, sent_one}
use Rattle.life.proofs.SendLemmas.{not_sent}
use Rattle.life.proofs.machine.Machine.send_if_permitted.Goals as goal

pub generate-requires-clause-room : goal.generate-requires-clause-room
generate-requires-clause-room g c = λ q e.
    let r = process_like c.args.me.now in
    let can : may r (number_of c.args.signal.now) q ≡ true = ap (λ s. may r s q) (sym c.number_of.ensures) ∙ sym (c.may_signal.ensures q (c.requires.is q e)) ∙ c.if-not-may_signal.false in
    subst (λ (x : Option PendingSignal). HaveRoom (g.S.Pools.pools c.args.pools.now) (queuers (number_of x) (q ∷ []))) c.in-Some.is
    (subst (λ l. HaveRoom (g.S.Pools.pools c.args.pools.now) (queuers (number_of c.args.signal.now) l)) (permitted_one r (number_of c.args.signal.now) q can) (c.requires.room q e))

pub returns-then-not-may_signal : goal.returns-then-not-may_signal
returns-then-not-may_signal g c =
    let r = process_like c.args.me.now in
    let s = c.args.self.now.state in
    let can : (q : Process) → c.args.it.now ≡ snapshot_of q → may r (number_of c.args.signal.now) q ≡ false = λ q f. ap (λ s. may r s q) (sym c.number_of.ensures) ∙ sym (c.may_signal.ensures q f) ∙ c.if-not-may_signal.true in
    record {
      sending = λ q e. ap sending_permitted (sym (permitted_none r (number_of c.args.signal.now) q (can q (c.requires.is q e))));
      state = λ q e. ap (with_processes s) (sym (not_sent r c.args.signal.now q s.processes s.order c.args.self.now.to_recheck (can q (c.requires.is q e))).0);
      to_recheck = λ q e. sym (not_sent r c.args.signal.now q s.processes s.order c.args.self.now.to_recheck (can q (c.requires.is q e))).1;
      foregrounds_unchecked = refl;
      costs = search rules;
      pools = λ q e. omega arith;
    }

pub returns-in-Some : goal.returns-in-Some
returns-in-Some g c =
    let r = process_like c.args.me.now in
    let old = c.args.self.now in
    let s = old.state in
    let m = c.in-Some.signal in
    let k = c.args.signal.now in
    let did = c.generate.ensures.changes in
    let can : (q : Process) → c.args.it.now ≡ snapshot_of q → may r (number_of k) q ≡ true = λ q f. ap (λ s. may r s q) (sym c.number_of.ensures) ∙ sym (c.may_signal.ensures q f) ∙ c.if-not-may_signal.false in
    let one : (q : Process) → process s c.args.it.now.pid ≡ Some q → (sent_among r (Some m) (q ∷ []) s.processes ≡ generated_for m (process s c.args.it.now.pid) s.processes)
    × (rechecking_signalled r (Some m) (q ∷ []) s.processes s.order old.to_recheck ≡ rechecking_generated m (process s c.args.it.now.pid) s.processes s.order old.to_recheck) = λ q e. sent_one r m q c.args.it.now.pid s.processes s.order old.to_recheck (pid_looked c.args.it.now.pid s.processes q e) (ap (λ (x : Option PendingSignal). may r (number_of x) q) (sym c.in-Some.is) ∙ can q (c.requires.is q e)) in
    record {
      sending = λ q e. ap sending_permitted (sym (permitted_one r (number_of k) q (can q (c.requires.is q e))));
      state = λ q e. did.state ∙ ap (with_processes s) (sym (one q e).0 ∙ ap (λ (x : Option PendingSignal). sent_among r x (q ∷ []) s.processes) (sym c.in-Some.is));
      to_recheck = λ q e. did.to_recheck ∙ sym (one q e).1 ∙ ap (λ (x : Option PendingSignal). rechecking_signalled r x (q ∷ []) s.processes s.order old.to_recheck) (sym c.in-Some.is);
      foregrounds_unchecked = did.foregrounds_unchecked;
      costs = subst (λ (x : Option PendingSignal). Costs (slots_of_send (number_of x)) old c.generate.new.self) (sym c.in-Some.is) did.costs;
      pools = λ q e.
          subst (λ l. (g.S.Pools.pools c.args.pools.now) ≤ (g.S.Pools.pools c.generate.new.pools) + length (queuers (number_of k) l)) (sym (permitted_one r (number_of k) q (can q (c.requires.is q e))))
          (subst (λ (x : Option PendingSignal). (g.S.Pools.pools c.args.pools.now) ≤ (g.S.Pools.pools c.generate.new.pools) + length (queuers (number_of x) (q ∷ []))) (sym c.in-Some.is) (c.generate.ensures.pools q e));
    }

pub returns-in_default : goal.returns-in_default
unfolding sent_among rechecking_signalled
returns-in_default g c =
    let r = process_like c.args.me.now in
    let s = c.args.self.now.state in
    let k = c.args.signal.now in
    record {
      sending = λ q e. ap sending_permitted (sym (permitted_one r (number_of k) q (ap (λ s. may r s q) (sym c.number_of.ensures) ∙ sym (c.may_signal.ensures q (c.requires.is q e)) ∙ c.if-not-may_signal.false)));
      state = λ q e. ap (λ (x : Option PendingSignal). with_processes s (sent_among r x (q ∷ []) s.processes)) (sym c.in_default.is);
      to_recheck = λ q e. ap (λ (x : Option PendingSignal). rechecking_signalled r x (q ∷ []) s.processes s.order c.args.self.now.to_recheck) (sym c.in_default.is);
      foregrounds_unchecked = refl;
      costs = search rules;
      pools = λ q e. omega arith;
    }
