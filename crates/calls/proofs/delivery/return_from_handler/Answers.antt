use Rattle.std.proofs.Common.{◌≡◌, ◌∙◌, ap, subst}
use Rattle.posix.specs.Common.{State, process, change, returned, return_from_handler, return_to, fault, SEGV}
use Rattle.proctable.specs.Records.{give_own}
use Rattle.life.proofs.LoanLemmas.{was_written, only_read}
use Rattle.calls.proofs.CallLemmas.{outcome_of}
use Rattle.calls.proofs.DeliveryLemmas.{return_is, shown_alone}
use Rattle.calls.specs.Outcomes.{with_own}
use Rattle.calls.proofs.OwnLemmas.{of_own, own_there, there_lent}
use Rattle.calls.proofs.delivery.return_from_handler.Goals as goal

pub returns-in-Ok-clause-state : goal.returns-in-Ok-clause-state
returns-in-Ok-clause-state g c = λ me e.
    let s = c.args.machine.now.state in
    let p = c.args.pid in
    let o = c.own.result.now in
    let t = change s p (give_own c.return_from_handler.new.self) in
    let done = c.in-Ok.ensures.ok in
    of_own (λ x. return_from_handler s x ≡ outcome_of t c.push.new.self.items) s p o me c.own.ensures.value e
    (return_is s (with_own p o me) done.0 t done.1 (was_written s p o c.return_from_handler.new.self (returned done.0) c.own.ensures.regular c.own.ensures.value done.2)
    ∙ ap (outcome_of t) (shown_alone _ _ _ c.requires.none c.push.ensures.items))

pub fault-requires-clause-there : goal.fault-requires-clause-there
fault-requires-clause-there g c = there_lent c.args.machine.now.state c.args.pid c.return_from_handler.new.self c.requires.there

pub returns-in-Err-clause-state : goal.returns-in-Err-clause-state
unfolding return_from_handler
returns-in-Err-clause-state g c = λ me e.
    let s = c.args.machine.now.state in
    let p = c.args.pid in
    let o = c.own.result.now in
    let same = ap (λ w. change s p (give_own w)) c.in-Err.ensures.same ∙ only_read s p o c.own.ensures.regular c.own.ensures.value in
    of_own (λ x. return_from_handler s x ≡ outcome_of c.fault.new.machine.state c.fault.new.entries.items) s p o me c.own.ensures.value e
    (ap (return_to s (with_own p o me)) c.in-Err.ensures.none
    ∙ subst (λ (u : State). fault u (with_own p o me) SEGV ≡ outcome_of c.fault.new.machine.state c.fault.new.entries.items) same
    (c.fault.ensures.does (with_own p o me) (ap (λ (u : State). process u p) same ∙ own_there s p o me c.own.ensures.value e)))
