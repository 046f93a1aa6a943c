use Rattle.std.proofs.Common.{rules, ◌≡◌, ◌∙◌, ap, sym, of_z, to_z, w64}
use Rattle.posix.specs.Common.{change, deliver, handle, take_out}
use Rattle.posix.proofs.RegularLemmas.{keeps_take_out}
use Rattle.posix.proofs.ResultLemmas.{is_there}
use Rattle.proctable.specs.Records.{give_own}
use Rattle.life.proofs.LoanLemmas.{was_written}
use Rattle.calls.proofs.CallLemmas.{outcome_of}
use Rattle.calls.proofs.DeliveryLemmas.{Reads, deliver_at, deliver_ignored, deliver_default, shown_alone, there_then}
use Rattle.calls.specs.Outcomes.{with_own}
use Rattle.calls.proofs.OwnLemmas.{of_own, own_there, there_lent, placed_lent}
use Rattle.calls.proofs.delivery.deliver.Goals as goal

pub own-own-requires : goal.own-own-requires
own-own-requires g c = is_there _ c.requires.placed.what c.requires.placed.found

pub handle-requires-clause-there : goal.handle-requires-clause-there
handle-requires-clause-there g c = there_lent c.args.machine.now.state c.args.pid (record (c.own-own.result.now) { signals = c.take-carried.new.self }) (is_there _ c.requires.placed.what c.requires.placed.found)

pub act_by_default-requires-clause-placed : goal.act_by_default-requires-clause-placed
act_by_default-requires-clause-placed g c = placed_lent c.args.machine.now.state c.args.pid (record (c.own-own.result.now) { signals = c.take-carried.new.self }) c.requires.placed

pub returns-in-At-clause-state : goal.returns-in-At-clause-state
unfolding take_out
returns-in-At-clause-state g c = λ me e.
    let s = c.args.machine.now.state in
    let p = c.args.pid in
    let o = c.own-own.result.now in
    let x = with_own p o me in
    let w = record o { signals = c.take-carried.new.self } in
    let t = change s p (give_own w) in
    let changed = was_written s p o w (take_out c.args.sig) c.own-own.ensures.regular c.own-own.ensures.value (λ r. ap (λ h. give_own (record o { signals = h }) r) c.take-carried.ensures.state) in
    let visits : Reads s x c.args.sig t c.action-action.result = record { action_is = c.action-action.ensures; state_is = changed } in
    let after = there_then s t p (take_out c.args.sig) (keeps_take_out {now = 0} c.args.sig).pid changed x (own_there s p o me c.own-own.ensures.value e) in
    let kept : to_z w64 (of_z w64 c.in-At.address) ≡ c.in-At.address = search rules in
    of_own (λ x. deliver s x c.args.sig ≡ outcome_of c.handle.new.machine.state c.handle.new.entries.items) s p o me c.own-own.ensures.value e
    (deliver_at s x c.args.sig t c.action-action.result c.in-At.address c.take-carried.result visits c.in-At.is c.take-carried.ensures.value
    ∙ ap (handle t (take_out c.args.sig x) (record { sig = c.args.sig; carried = c.take-carried.result })) (sym kept)
    ∙ c.handle.ensures.does (take_out c.args.sig x) after)

pub returns-in-Ignore-clause-state : goal.returns-in-Ignore-clause-state
unfolding take_out
returns-in-Ignore-clause-state g c = λ me e.
    let s = c.args.machine.now.state in
    let p = c.args.pid in
    let o = c.own-own.result.now in
    let x = with_own p o me in
    let w = record o { signals = c.take-carried.new.self } in
    let t = change s p (give_own w) in
    let changed = was_written s p o w (take_out c.args.sig) c.own-own.ensures.regular c.own-own.ensures.value (λ r. ap (λ h. give_own (record o { signals = h }) r) c.take-carried.ensures.state) in
    let visits : Reads s x c.args.sig t c.action-action.result = record { action_is = c.action-action.ensures; state_is = changed } in
    of_own (λ x. deliver s x c.args.sig ≡ outcome_of t c.push.new.self.items) s p o me c.own-own.ensures.value e
    (deliver_ignored s x c.args.sig t c.action-action.result visits c.in-Ignore.is ∙ ap (outcome_of t) (shown_alone _ _ _ c.requires.none c.push.ensures.items))

pub returns-in-Default-clause-state : goal.returns-in-Default-clause-state
unfolding take_out
returns-in-Default-clause-state g c = λ me e.
    let s = c.args.machine.now.state in
    let p = c.args.pid in
    let o = c.own-own.result.now in
    let x = with_own p o me in
    let w = record o { signals = c.take-carried.new.self } in
    let t = change s p (give_own w) in
    let changed = was_written s p o w (take_out c.args.sig) c.own-own.ensures.regular c.own-own.ensures.value (λ r. ap (λ h. give_own (record o { signals = h }) r) c.take-carried.ensures.state) in
    let visits : Reads s x c.args.sig t c.action-action.result = record { action_is = c.action-action.ensures; state_is = changed } in
    let after = there_then s t p (take_out c.args.sig) (keeps_take_out {now = 0} c.args.sig).pid changed x (own_there s p o me c.own-own.ensures.value e) in
    of_own (λ x. deliver s x c.args.sig ≡ outcome_of c.act_by_default.new.machine.state c.act_by_default.new.entries.items) s p o me c.own-own.ensures.value e
    (deliver_default s x c.args.sig t c.action-action.result visits c.in-Default.is ∙ c.act_by_default.ensures.state (take_out c.args.sig x) after)
