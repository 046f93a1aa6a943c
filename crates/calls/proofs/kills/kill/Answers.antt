use Rattle.std.proofs.Common.{refl, pos}
use Rattle.posix.specs.declared.call.Call.TheVariants.{Kill}
use Rattle.posix.specs.Common.{attempt, kill, target_in}
use Rattle.calls.proofs.BriefLemmas.{brief_sent_as}
use Rattle.calls.proofs.CallLemmas.{caller_is}
use Rattle.calls.proofs.KillLemmas.{sends_as}
use Rattle.calls.proofs.kills.kill.Goals as goal

pub send-requires-clause-there : goal.send-requires-clause-there
send-requires-clause-there g c = rw (c.caller-me.ensures.finds.looks.same.state, c.caller-me.ensures.pid) c.requires.there

pub returns-clause-attempts : goal.returns-clause-attempts
unfolding attempt kill
returns-clause-attempts g c = λ me e.
    let finds = c.caller-me.ensures.finds in
    let is = caller_is _ me c.caller-me.result finds.value e in
    let comes = c.send.ensures.comes in
    (comes.0, sends_as comes.0 c.args.machine.now.state c.caller-me.new.self.state c.send.new.machine.state me c.caller-me.result Kill (λ d. target_in d.r1) (λ d. pos 0) _ _ c.send.result c.args.entries.now.items c.send.new.entries.items finds.looks.same.state is c.target.ensures refl comes.1)

pub returns-clause-brief : goal.returns-clause-brief
returns-clause-brief g c = λ me e one quiet.
    let finds = c.caller-me.ensures.finds in
    let is = caller_is _ me c.caller-me.result finds.value e in
    brief_sent_as c.args.pid c.args.machine.now c.caller-me.new.self c.send.new.machine me c.caller-me.result (λ d. target_in d.r1) _ finds.looks c.caller-me.ensures.pid is c.target.ensures one quiet c.send.ensures.brief
