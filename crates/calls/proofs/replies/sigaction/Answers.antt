use Rattle.std.proofs.Common.{◌≡◌, ◌∙◌, ap, sym, subst, refl, true, false, is_some, pos, rules, to_z, of_z, w64, Some, Ok, Err}
use Rattle.std.specs.Int.{cast_unsigned}
use Rattle.posix.specs.declared.errno.Errno.TheVariants.{EINVAL}
use Rattle.posix.specs.declared.process.Action.{Action}
use Rattle.posix.specs.Common.{argument, refusal, set_action, signal_in, is_question, are_flags, give_signals, holding}
use Rattle.proctable.specs.Records.{give_own}
use Rattle.calls.specs.Outcomes.{Replies}
use Rattle.calls.proofs.OwnLemmas.{sigaction_unflagged, sigaction_sets}
use Rattle.calls.proofs.replies.sigaction.Goals as goal

pub returns-in_default-action_in : goal.returns-in_default-action_in
returns-in_default-action_in c = λ r.
    let o = c.args.own.now in
    let x = give_own o r in
    let kept : to_z w64 (of_z w64 c.register.result) ≡ c.register.result = search rules in
    let kept_second : to_z w64 (of_z w64 c.register-2.result) ≡ c.register-2.result = search rules in
    let some : signal_in (argument x 1) ≡ Some c.in-Some.sig = ap signal_in (sym (kept ∙ c.register.ensures)) ∙ sym c.signal_in.ensures ∙ c.in-Some.is in
    let rechecks : is_question (argument x 2) ≡ false = ap is_question (sym (kept_second ∙ c.register-2.ensures)) ∙ sym c.is_question.ensures ∙ c.if-is_question.false in
    let flags : are_flags (cast_unsigned w64 (argument x 4)) ≡ false = sym (c.action_in.ensures.known r) ∙ ap is_some c.in_default-action_in.is in
    subst (λ reply. Replies reply (refusal EINVAL) o o) (sym (sigaction_unflagged x c.in-Some.sig some rechecks flags)) (record { given = refl; changed = λ q. refl })

pub returns-in-Ok : goal.returns-in-Ok
unfolding give_signals
returns-in-Ok c = λ r.
    let o = c.args.own.now in
    let x = give_own o r in
    let kept : to_z w64 (of_z w64 c.register.result) ≡ c.register.result = search rules in
    let kept_second : to_z w64 (of_z w64 c.register-2.result) ≡ c.register-2.result = search rules in
    let some : signal_in (argument x 1) ≡ Some c.in-Some.sig = ap signal_in (sym (kept ∙ c.register.ensures)) ∙ sym c.signal_in.ensures ∙ c.in-Some.is in
    let rechecks : is_question (argument x 2) ≡ false = ap is_question (sym (kept_second ∙ c.register-2.ensures)) ∙ sym c.is_question.ensures ∙ c.if-is_question.false in
    let flags : are_flags (cast_unsigned w64 (argument x 4)) ≡ true = sym (c.action_in.ensures.known r) ∙ ap is_some c.in-Some-action_in.is in
    let sets = ap (λ (a : Action). set_action c.in-Some.sig a o.signals) (sym (c.in-Some-action_in.ensures.value r)) ∙ c.in-Ok.ensures.ok in
    subst (λ reply. Replies reply (pos 0) o c.show_action_in_registers-in-Ok.new.own) (sym (sigaction_sets x c.in-Some.sig (Ok c.set_action.new.self) some rechecks flags sets))
    (record { given = refl; changed = λ q. c.show_action_in_registers-in-Ok.ensures q ∙ ap (λ a. holding a (give_own (record o { signals = c.set_action.new.self }) q)) c.action-old.ensures })

pub returns-in-Err : goal.returns-in-Err
unfolding give_signals
returns-in-Err c = λ r.
    let o = c.args.own.now in
    let x = give_own o r in
    let kept : to_z w64 (of_z w64 c.register.result) ≡ c.register.result = search rules in
    let kept_second : to_z w64 (of_z w64 c.register-2.result) ≡ c.register-2.result = search rules in
    let some : signal_in (argument x 1) ≡ Some c.in-Some.sig = ap signal_in (sym (kept ∙ c.register.ensures)) ∙ sym c.signal_in.ensures ∙ c.in-Some.is in
    let rechecks : is_question (argument x 2) ≡ false = ap is_question (sym (kept_second ∙ c.register-2.ensures)) ∙ sym c.is_question.ensures ∙ c.if-is_question.false in
    let flags : are_flags (cast_unsigned w64 (argument x 4)) ≡ true = sym (c.action_in.ensures.known r) ∙ ap is_some c.in-Some-action_in.is in
    let sets = ap (λ (a : Action). set_action c.in-Some.sig a o.signals) (sym (c.in-Some-action_in.ensures.value r)) ∙ c.in-Err.ensures.err in
    subst (λ reply. Replies reply (refusal c.in-Err.errno) o (record o { signals = c.set_action.new.self })) (sym (sigaction_sets x c.in-Some.sig (Err c.in-Err.errno) some rechecks flags sets))
    (record { given = refl; changed = λ q. ap (λ g. give_own (record o { signals = g }) q) c.in-Err.ensures.same })
