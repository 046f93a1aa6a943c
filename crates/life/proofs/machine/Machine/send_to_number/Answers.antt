use Rattle.std.proofs.Common.{rules, ap, sym, refl, ◌∙◌, ◌≡◌, arith, subst, ◌∷◌, [], List, Some}
use Rattle.posix.specs.Common.{Process, sending, queuers_among, number_of, queuers, permitted, process}
use Rattle.posix.proofs.TableLemmas.{pid_looked}
use Rattle.std.proofs.lemmas.Option.{same_Some}
use Rattle.proctable.specs.Records.{snapshot_of}
use Rattle.proctable.specs.declared.snapshot.Snapshot.{Snapshot}
use Rattle.life.specs.Callers.{process_like}
use Rattle.life.specs.Queues.{HaveRoom}
use Rattle.posix.proofs.ResultLemmas.{back, is_there, none_mapped}
use Rattle.life.proofs.SendLemmas.{target_one, target_other, target_none, sent_nobody, rechecked_nobody}
use Rattle.life.proofs.machine.Machine.send_to_number.Goals as goal

pub send_if_permitted-requires-clause-there : goal.send_if_permitted-requires-clause-there
send_if_permitted-requires-clause-there g c =
    let it = back _ _ _ (sym c.in-Some.is ∙ c.snapshot.ensures.value) in
    let named = ap (λ (f : Snapshot). f.pid) it.is ∙ pid_looked c.args.pid _ it.what it.found in
    rw (named, c.snapshot.ensures.looks.same.state) (is_there _ it.what it.found)

pub send_if_permitted-requires-clause-is : goal.send_if_permitted-requires-clause-is
send_if_permitted-requires-clause-is g c = λ q e.
    let it = back _ _ _ (sym c.in-Some.is ∙ c.snapshot.ensures.value) in
    let named : c.in-Some.it.pid ≡ c.args.pid = ap (λ (f : Snapshot). f.pid) it.is ∙ pid_looked c.args.pid _ it.what it.found in
    let same : it.what ≡ q = same_Some _ _ (sym it.found ∙ ap (λ t. process t c.args.pid) (sym c.snapshot.ensures.looks.same.state) ∙ ap (process c.snapshot.new.self.state) (sym named) ∙ e) in
    it.is ∙ ap snapshot_of same

pub send_if_permitted-requires-clause-room : goal.send_if_permitted-requires-clause-room
unfolding queuers_among
send_if_permitted-requires-clause-room g c = λ q e.
    let it = back _ _ _ (sym c.in-Some.is ∙ c.snapshot.ensures.value) in
    let r = process_like c.args.me.now in
    let k = number_of c.args.signal.now in
    let named : c.in-Some.it.pid ≡ c.args.pid = ap (λ (f : Snapshot). f.pid) it.is ∙ pid_looked c.args.pid _ it.what it.found in
    let same : it.what ≡ q = same_Some _ _ (sym it.found ∙ ap (λ t. process t c.args.pid) (sym c.snapshot.ensures.looks.same.state) ∙ ap (process c.snapshot.new.self.state) (sym named) ∙ e) in
    let target = target_one r c.args.target.now c.args.pid _ c.snapshot.ensures.looks.regular.rising it.what it.found (sym (c.is_target.ensures it.what it.is) ∙ c.if-is_target.true) in
    subst (λ (l : List Process). HaveRoom (g.S.Pools.pools c.args.pools.now) (queuers k (permitted r k l))) (target ∙ ap (λ x. x ∷ []) same) c.requires.room

pub returns-in-Some : goal.returns-in-Some
unfolding sending queuers_among
returns-in-Some g c =
    let it = back _ _ _ (sym c.in-Some.is ∙ c.snapshot.ensures.value) in
    let looks = c.snapshot.ensures.looks in
    let named : c.in-Some.it.pid ≡ c.args.pid = ap (λ (f : Snapshot). f.pid) it.is ∙ pid_looked c.args.pid _ it.what it.found in
    let there : process c.snapshot.new.self.state c.in-Some.it.pid ≡ Some it.what = ap (process c.snapshot.new.self.state) named ∙ ap (λ t. process t c.args.pid) looks.same.state ∙ it.found in
    let target = target_one (process_like c.args.me.now) c.args.target.now c.args.pid _ looks.regular.rising it.what it.found (sym (c.is_target.ensures it.what it.is) ∙ c.if-is_target.true) in
    rw target record {
      sending = c.send_if_permitted.ensures.sending it.what there;
      changes = record {
        state = rw looks.same.state at (c.send_if_permitted.ensures.state it.what there);
        to_recheck = rw (looks.same.state, looks.same.to_recheck) at (c.send_if_permitted.ensures.to_recheck it.what there);
        foregrounds_unchecked = search rules;
        costs = search rules;
      };
      pools = c.send_if_permitted.ensures.pools it.what there;
    }

pub returns-in_default : goal.returns-in_default
unfolding sending
returns-in_default g c =
    let it = back _ _ _ (sym c.in-Some.is ∙ c.snapshot.ensures.value) in
    let looks = c.snapshot.ensures.looks in
    rw (target_other (process_like c.args.me.now) c.args.target.now c.args.pid _ looks.regular.rising it.what it.found (sym (c.is_target.ensures it.what it.is) ∙ c.if-is_target.false), sent_nobody, rechecked_nobody)
    record { sending = refl; changes = record { state = looks.same.state; to_recheck = looks.same.to_recheck; foregrounds_unchecked = looks.same.foregrounds_unchecked; costs = search rules }; pools = omega arith }

pub returns-in_default-2 : goal.returns-in_default-2
unfolding sending
returns-in_default-2 g c =
    let looks = c.snapshot.ensures.looks in
    rw (target_none (process_like c.args.me.now) c.args.target.now c.args.pid _ (none_mapped _ _ (sym c.in_default.is ∙ c.snapshot.ensures.value)), sent_nobody, rechecked_nobody)
    record { sending = refl; changes = record { state = looks.same.state; to_recheck = looks.same.to_recheck; foregrounds_unchecked = looks.same.foregrounds_unchecked; costs = search rules }; pools = omega arith }
