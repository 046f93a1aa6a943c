use Rattle.std.proofs.Common.{◌≡◌, ap, ◌∙◌, refl, true, rules, to_z, of_z, w64, [], ◌∷◌, ◌++◌}
use Rattle.posix.specs.Common.{refusal, signal_or_none, message as message_of}
use Rattle.life.specs.Callers.{process_like}
use Rattle.calls.proofs.CallLemmas.{gives_is}
use Rattle.calls.proofs.KillLemmas.{send_unknown, send_comes, there_sent}
use Rattle.calls.proofs.BriefLemmas.{brief_done, brief_more, brief_send, kill_least}
use Rattle.calls.proofs.kills.send.Goals as goal

pub returns-in-Err-clause-comes : goal.returns-in-Err-clause-comes
returns-in-Err-clause-comes g c =
    let s = c.args.machine.now.state in
    let me = c.args.me.now in
    let is = send_unknown true s (process_like me) c.args.call c.args.target c.args.value me.r2 _ c.in-Err.errno c.signal_or_none.ensures c.in-Err.is in
    (true, gives_is s s _ _ _ me.pid c.args.call (refusal c.in-Err.errno) (refusal c.in-Err.errno) _ _ _ is c.refuse.ensures.done c.refuse.ensures.state refl c.refuse.ensures.shown refl)

pub returns-in-Err-clause-brief : goal.returns-in-Err-clause-brief
returns-in-Err-clause-brief g c = λ one quiet.
    brief_more 1 _ c.args.machine.now _ (kill_least (signal_or_none c.args.me.now.r2)) (brief_done c.args.me.now.pid _ c.args.machine.now _ quiet c.refuse.ensures.state c.refuse.ensures.costs)

pub finish_shown-requires-clause-there : goal.finish_shown-requires-clause-there
finish_shown-requires-clause-there g c = there_sent c.send-sending.result c.args.machine.now.state _ (process_like c.args.me.now) c.args.target c.message.result c.args.me.now.pid c.send-sending.ensures.changes.state c.requires.there

pub returns-clause-comes : goal.returns-clause-comes
returns-clause-comes g c =
    let me = process_like c.args.me.now in
    let send = c.send-sending.ensures in
    let value : to_z w64 (of_z w64 c.args.value) ≡ c.args.value = search rules in
    let message = c.message.ensures ∙ ap (λ v. message_of me.pid v c.in-Ok.sig) value in
    let given : to_z w64 (of_z w64 c.value_of.result) ≡ c.value_of.result = search rules in
    let last = c.finish_shown.ensures in
    let shown = last.shown ∙ ap (λ e. c.args.entries.now.items ++ e ∷ []) c.entry_of-entry.ensures in (
      send.sending.0,
      send_comes send.sending.0 c.args.machine.now.state _ _ me c.args.call c.args.target c.args.value c.args.me.now.r2 _ _ c.in-Ok.sig c.message.result c.send-sending.result _ _ _
          c.signal_or_none.ensures c.in-Ok.is message send.sending.1 send.changes.state (given ∙ c.value_of.ensures) last.done last.state shown,
    )

pub returns-clause-brief : goal.returns-clause-brief
returns-clause-brief g c = λ one quiet.
    let value : to_z w64 (of_z w64 c.args.value) ≡ c.args.value = search rules in
    let message = c.message.ensures ∙ ap (λ v. message_of c.args.me.now.pid v c.in-Ok.sig) value in
    let send = c.send-sending.ensures in
    let last = c.finish_shown.ensures in
    brief_send (process_like c.args.me.now) c.args.target _ c.args.me.now.r2 c.in-Ok.sig c.args.value c.message.result c.send-sending.result _ c.args.machine.now _ _ one quiet c.signal_or_none.ensures c.in-Ok.is message send.changes.costs.regular send.changes.state send.changes.to_recheck send.changes.foregrounds_unchecked (send.visits one) last.state last.costs
