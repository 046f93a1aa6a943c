use Rattle.std.proofs.Common.{rules, Bool, true, false, ◌≡◌, ap, sym, ◌∙◌, arith, nat_le, length}
use mir.Val.{bool_byte}
use Rattle.posix.specs.Common.{State, process, most_queued}
use Rattle.posix.proofs.TableLemmas.{pid_looked}
use Rattle.proctable.specs.declared.snapshot.Snapshot.{Snapshot}
use Rattle.proctable.specs.declared.own_part.OwnPart.{OwnPart}
use Rattle.life.specs.Callers.{process_like}
use Rattle.jobs.proofs.LoanLemmas.{own_found}
use Rattle.posix.proofs.ResultLemmas.{back, none_mapped}
use Rattle.life.proofs.SendLemmas.{target_none, target_other}
use Rattle.life.proofs.SurveyLemmas.{survey_missed, survey_forbidden, survey_permitted, queuer_read, asked, one_seen}
use Rattle.life.proofs.machine.Machine.survey_one.Goals as goal
use Rattle.life.proofs.machine.Machine.survey_one.Goals.{then-queues, else-queues}

pub returns-in_default : goal.returns-in_default
returns-in_default g c =
    let looks = c.snapshot.ensures.looks in
    let value = survey_missed (process_like c.args.me.now) c.args.sig _ (target_none (process_like c.args.me.now) c.args.target.now c.args.pid _ (none_mapped _ _ (sym c.in_default.is ∙ c.snapshot.ensures.value))) in
    record { value = value; looks = search (rules, arith) }

pub returns-then-not-is_target : goal.returns-then-not-is_target
returns-then-not-is_target g c =
    let looks = c.snapshot.ensures.looks in
    let it = back _ _ _ (sym c.in-Some.is ∙ c.snapshot.ensures.value) in
    let value = survey_missed (process_like c.args.me.now) c.args.sig _ (target_other (process_like c.args.me.now) c.args.target.now c.args.pid _ looks.regular.rising it.what it.found (sym (c.is_target.ensures it.what it.is) ∙ c.if-not-is_target.true)) in
    record { value = value; looks = search (rules, arith) }

pub returns-then-not-may_signal : goal.returns-then-not-may_signal
returns-then-not-may_signal g c =
    let looks = c.snapshot.ensures.looks in
    let it = back _ _ _ (sym c.in-Some.is ∙ c.snapshot.ensures.value) in
    let meant = sym (c.is_target.ensures it.what it.is) ∙ c.if-not-is_target.false in
    let value = survey_forbidden (process_like c.args.me.now) c.args.sig c.args.target.now c.args.pid _ looks.regular.rising it.what it.found meant (sym (c.may_signal.ensures it.what it.is) ∙ c.if-not-may_signal.true) in
    record { value = value; looks = search (rules, arith) }

pub returns : goal.returns
returns g c =
    let looks = c.snapshot.ensures.looks in
    let it = back _ _ _ (sym c.in-Some.is ∙ c.snapshot.ensures.value) in
    let q = it.what in
    let meant = sym (c.is_target.ensures q it.is) ∙ c.if-not-is_target.false in
    let may = sym (c.may_signal.ensures q it.is) ∙ c.if-not-may_signal.false in
    let own = own_found c.snapshot.new.self.state.processes c.args.pid c.look.result.now q c.look.ensures.value (ap (λ (s : State). process s c.args.pid) looks.same.state ∙ it.found) in
    let queuer = c.queues-queues.ensures ∙ queuer_read c.args.sig c.args.pid c.in-Some.it.life c.look.result.now.signals q (pid_looked c.args.pid _ q it.found) (ap (λ (f : Snapshot). f.life) it.is) (ap (λ (o : OwnPart). o.signals) own) in
    let value = λ (b : Bool) (is : c.queues-queues.result ≡ b). survey_permitted (process_like c.args.me.now) c.args.sig c.args.target.now c.args.pid _ looks.regular.rising q it.found meant may b (sym is ∙ queuer) in
    let seen = one_seen g.K.ProcessTable.one_more g.met.K.ProcessTable.at_most_one g.met.K.ProcessTable.no_less c.args.self.now c.snapshot.new.self looks in
    elim c.if-queues.branch [
      | then-queues w ↦
          let full = w.result-is ∙ w.is_queue_full.ensures ∙ ap (λ (o : OwnPart). nat_le most_queued (length o.signals.queue)) own in
          let many = c.from.ensures ∙ ap bool_byte w.if-queues.true in
          record { value = ap (λ b. asked b c.from.result) full ∙ ap (asked _) many ∙ value true w.if-queues.true; looks = seen c.if-queues.self (w.self-is ∙ c.look.follows.holds-at-none) }
      | else-queues w ↦
          let full = w.result-is ∙ w.if-queues.false in
          let many = c.from.ensures ∙ ap bool_byte w.if-queues.false in
          record { value = ap (λ b. asked b c.from.result) full ∙ ap (asked _) many ∙ value false w.if-queues.false; looks = seen c.if-queues.self (w.self-is ∙ c.look.follows.holds-at-none) }
    ]
