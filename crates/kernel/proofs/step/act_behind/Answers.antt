use Rattle.std.proofs.Common.{◌≡◌, ◌+◌, ◌∙◌, arith, option_and_then, ap, sym, subst}
use Rattle.std.specs.Option.{IfSome}
use Rattle.std.proofs.lemmas.Option.{IfSome_then, same_Some}
use Rattle.posix.specs.Common.{Process, process, current_process, step}
use Rattle.calls.specs.Outcomes.{CostsWithRechecks}
use Rattle.calls.proofs.BriefLemmas.{brief_more}
use Rattle.kernel.specs.Counts.{ReadsAtMost, slots_of_acting, slots_of_step}
use Rattle.kernel.specs.Steps.{IsReadOfCurrent}
use Rattle.kernel.proofs.CountLemmas.{call_reads, own_costs, step_reads}
use Rattle.kernel.proofs.step.act_behind.Goals as goal

pub act-requires-clause-acting : goal.act-requires-clause-acting
act-requires-clause-acting g c = let it : IsReadOfCurrent c.args.machine.now.state c.in-Some-default.snapshot = rw c.in-Some-default.is-0 at c.requires.held in it.acting

pub act-requires-clause-snapshot : goal.act-requires-clause-snapshot
act-requires-clause-snapshot g c = let it : IsReadOfCurrent c.args.machine.now.state c.in-Some-default.snapshot = rw c.in-Some-default.is-0 at c.requires.held in it.read

pub begin_call-requires-clause-acting : goal.begin_call-requires-clause-acting
begin_call-requires-clause-acting g c = (c.requires.call c.in-None-Call.call c.in-None-Call.is-1).acting

pub begin_call-requires-clause-none_chosen : goal.begin_call-requires-clause-none_chosen
begin_call-requires-clause-none_chosen g c = (c.requires.call c.in-None-Call.call c.in-None-Call.is-1).none_chosen

pub returns-in-Some-default-clause-steps : goal.returns-in-Some-default-clause-steps
unfolding step
returns-in-Some-default-clause-steps g c =
    let s = c.args.machine.now.state in
    let it : IsReadOfCurrent s c.in-Some-default.snapshot = rw c.in-Some-default.is-0 at c.requires.held in
    let me = it.acting.placed in
    let acted = c.act.ensures.acts me.what me.found in
    (acted.0, ap (step acted.0 s) (ap (option_and_then (process s)) it.now ∙ me.found) ∙ acted.1)

pub returns-in-None-Call-clause-steps : goal.returns-in-None-Call-clause-steps
returns-in-None-Call-clause-steps g c =
    let comes = c.requires.call c.in-None-Call.call c.in-None-Call.is-1 in
    let me = comes.acting.placed in
    let began = c.begin_call.ensures.begins me.what me.found in
    (began.0, comes.begins began.0 me.what me.found ∙ began.1)

pub returns-in-Some-default-clause-reads : goal.returns-in-Some-default-clause-reads
returns-in-Some-default-clause-reads g c = λ rest.
    let old = c.args.machine.now in
    let s = old.state in
    let new = c.act.new.machine in
    let it : IsReadOfCurrent s c.in-Some-default.snapshot = rw c.in-Some-default.is-0 at c.requires.held in
    let me = it.acting.placed in
    let now : current_process s ≡ process s c.in-Some-default.snapshot.pid = ap (option_and_then (process s)) it.now in
    let acts = c.act.ensures.brief me.what me.found (record { none = rest.none; checked = rest.checked; place = it.acting.place }) in
    let brief = IfSome_then (slots_of_acting s me.what me.what.blocked) acts (λ n h. brief_more n (n + 1) old new (omega arith) h) in
    subst (λ o. IfSome (slots_of_step s o) (λ n. ReadsAtMost n old new)) (sym now)
    (step_reads old new (process s c.in-Some-default.snapshot.pid) rest (own_costs s (process s c.in-Some-default.snapshot.pid) old new c.act.ensures.cost c.act.ensures.enters)
    (λ m e. subst (λ (m : Process). IfSome (slots_of_acting s m m.blocked) (λ n. CostsWithRechecks (n + 1) old new)) (same_Some _ _ (sym me.found ∙ e)) brief))

pub returns-in-None-Call-clause-reads : goal.returns-in-None-Call-clause-reads
returns-in-None-Call-clause-reads g c = λ rest.
    let old = c.args.machine.now in
    let comes = c.requires.call c.in-None-Call.call c.in-None-Call.is-1 in
    let me = comes.acting.placed in
    subst (λ o. IfSome (slots_of_step old.state o) (λ n. ReadsAtMost n old c.begin_call.new.machine)) (sym comes.now)
    (call_reads c.in-None-Call.call old c.begin_call.new.machine me.what rest (comes.none_chosen me.what me.found) comes.free comes.next c.begin_call.ensures.own
    (c.begin_call.ensures.brief me.what me.found (record { none = rest.none; checked = rest.checked; place = comes.acting.place })))

pub returns-in-None-default-clause-reads : goal.returns-in-None-default-clause-reads
returns-in-None-default-clause-reads g c = λ rest. step_reads c.args.machine.now c.step.new.machine _ rest c.step.ensures.cost (λ me e. c.step.ensures.brief me e rest.none rest.checked)
