use Rattle.std.proofs.Common.{rules, true, false, sym, ◌≡◌, ◌∙◌, ap, of_z, to_z, w64, ◌++◌, ◌∷◌, [], List}
use Rattle.posix.specs.declared.entry.Entry.{Entry}
use Rattle.posix.specs.declared.entry.Entry.TheVariants.{Handled}
use Rattle.posix.specs.Common.{change, SEGV, killed, end_process, handles, is_full, handle, interruption}
use Rattle.posix.proofs.RegularLemmas.{keeps_handles}
use Rattle.proctable.specs.Records.{give_own}
use Rattle.life.proofs.LoanLemmas.{was_written}
use Rattle.calls.proofs.CallLemmas.{outcome_of}
use Rattle.calls.proofs.DeliveryLemmas.{handle_room, handle_full, there_then}
use Rattle.calls.specs.Outcomes.{with_own}
use Rattle.calls.proofs.OwnLemmas.{of_own, own_there, there_lent}
use Rattle.calls.proofs.delivery.handle.Goals as goal

pub end-requires-clause-there : goal.end-requires-clause-there
end-requires-clause-there g c = there_lent c.args.machine.now.state c.args.pid c.handle.new.self c.requires.there

pub returns-in-Ok-clause-does : goal.returns-in-Ok-clause-does
returns-in-Ok-clause-does g c = λ me e.
    let s = c.args.machine.now.state in
    let p = c.args.pid in
    let o = c.own-own.result.now in
    let t = change s p (give_own c.handle.new.self) in
    let kept : to_z w64 (of_z w64 c.args.address) ≡ c.args.address = search rules in
    let value : to_z w64 (of_z w64 c.args.signal.carried.value) ≡ c.args.signal.carried.value = search rules in
    of_own (λ x. handle s x c.args.signal c.args.address ≡ outcome_of t c.push.new.self.items) s p o me c.own-own.ensures.value e
    (handle_room s (with_own p o me) c.args.signal c.args.address t c.push.new.self.items c.in-Ok.ensures.room
    (was_written s p o c.handle.new.self (handles c.args.signal (to_z w64 (of_z w64 c.args.address))) c.own-own.ensures.regular c.own-own.ensures.value c.handle.ensures.state
    ∙ ap (λ z. change s p (handles c.args.signal z)) kept)
    (c.push.ensures.items ∙ ap (λ z. c.show_interruption.new.entries.items ++ Handled p c.args.signal.sig z c.args.signal.carried.sender ∷ []) value
    ∙ ap (λ (l : List Entry). l ++ Handled p c.args.signal.sig c.args.signal.carried.value c.args.signal.carried.sender ∷ []) (c.show_interruption.ensures.items
    ∙ ap (interruption p o.blocked) c.action-action.ensures)))

pub returns-in-Err-clause-does : goal.returns-in-Err-clause-does
returns-in-Err-clause-does g c = λ me e.
    let s = c.args.machine.now.state in
    let p = c.args.pid in
    let o = c.own-own.result.now in
    let x = with_own p o me in
    let t = change s p (give_own c.handle.new.self) in
    let kept : to_z w64 (of_z w64 c.args.address) ≡ c.args.address = search rules in
    let changed = was_written s p o c.handle.new.self (handles c.args.signal (to_z w64 (of_z w64 c.args.address))) c.own-own.ensures.regular c.own-own.ensures.value c.handle.ensures.state
    ∙ ap (λ z. change s p (handles c.args.signal z)) kept in
    let here = own_there s p o me c.own-own.ensures.value e in
    let after = there_then s t p (handles c.args.signal c.args.address) (keeps_handles {now = 0} _ _).pid changed x here in
    of_own (λ x. handle s x c.args.signal c.args.address ≡ outcome_of c.end.new.machine.state c.end.new.entries.items) s p o me c.own-own.ensures.value e
    (handle_full s x c.args.signal c.args.address t c.end.new.machine.state c.end.new.entries.items c.in-Err.ensures.full changed
    (c.end.ensures.state (handles c.args.signal c.args.address x) after ∙ ap (λ w. (end_process t (handles c.args.signal c.args.address x) w).state) c.killed.ensures)
    (c.end.ensures.entries (handles c.args.signal c.args.address x) after
    ∙ ap (λ w. c.show_interruption.new.entries.items ++ (end_process t (handles c.args.signal c.args.address x) w).entries) c.killed.ensures
    ∙ ap (λ (l : List Entry). l ++ (end_process t (handles c.args.signal c.args.address x) (killed SEGV)).entries) (c.show_interruption.ensures.items
    ∙ ap (interruption p o.blocked) c.action-action.ensures)))

pub returns-in-Err-clause-costs : goal.returns-in-Err-clause-costs
returns-in-Err-clause-costs g c = λ placed me e room.
    let o = c.own-own.result.now in
    let full = of_own (λ x. is_full x.signals ≡ true) c.args.machine.now.state c.args.pid o me c.own-own.ensures.value e c.in-Err.ensures.full in
    let no : false ≡ true = sym room ∙ full in
    absurd (cc)
