use Rattle.std.proofs.Common.{◌≡◌, ◌∙◌, ap, rules, to_z, of_z, w64}
use Rattle.posix.specs.declared.call.Call.TheVariants.{Sigqueue}
use Rattle.posix.specs.Common.{attempt, sigqueue, process_in}
use Rattle.calls.proofs.BriefLemmas.{brief_sent_as}
use Rattle.calls.proofs.CallLemmas.{caller_is}
use Rattle.calls.proofs.KillLemmas.{sends_as}
use Rattle.calls.proofs.kills.sigqueue.Goals as goal

pub send-requires-clause-there : goal.send-requires-clause-there
send-requires-clause-there g c = rw (c.caller-me.ensures.finds.looks.same.state, c.caller-me.ensures.pid) c.requires.there

pub returns-clause-attempts : goal.returns-clause-attempts
unfolding attempt sigqueue
returns-clause-attempts g c = λ me e.
    let finds = c.caller-me.ensures.finds in
    let is = caller_is _ me c.caller-me.result finds.value e in
    let first : to_z w64 (of_z w64 c.caller-me.result.r1) ≡ c.caller-me.result.r1 = search rules in
    let given : to_z w64 (of_z w64 c.caller-me.result.r3) ≡ c.caller-me.result.r3 = search rules in
    let comes = c.send.ensures.comes in
    (comes.0, sends_as comes.0 c.args.machine.now.state c.caller-me.new.self.state c.send.new.machine.state me c.caller-me.result Sigqueue (λ d. process_in d.r1) (λ d. d.r3) _ _ c.send.result c.args.entries.now.items c.send.new.entries.items finds.looks.same.state is (c.process_from_word-target.ensures ∙ ap process_in first) given comes.1)

pub returns-clause-brief : goal.returns-clause-brief
returns-clause-brief g c = λ me e one quiet.
    let finds = c.caller-me.ensures.finds in
    let is = caller_is _ me c.caller-me.result finds.value e in
    let first : to_z w64 (of_z w64 c.caller-me.result.r1) ≡ c.caller-me.result.r1 = search rules in
    brief_sent_as c.args.pid c.args.machine.now c.caller-me.new.self c.send.new.machine me c.caller-me.result (λ d. process_in d.r1) _ finds.looks c.caller-me.ensures.pid is (c.process_from_word-target.ensures ∙ ap process_in first) one quiet c.send.ensures.brief
