use Rattle.std.proofs.Common.{◌≡◌, rules, to_z, of_z, w64}
use Rattle.calls.specs.Outcomes.{with_own}
use Rattle.calls.proofs.OwnLemmas.{answers_reply}
use Rattle.calls.proofs.replies.own_call.Goals as goal

pub returns-clause-answers : goal.returns-clause-answers
returns-clause-answers c = λ r.
    let kept : to_z w64 (of_z w64 c.reply-value.result) ≡ c.reply-value.result = search rules in
    answers_reply (with_own c.args.pid c.args.own.now r) c.args.call c.args.own.now c.reply-value.new.own c.finish.new.self _ _ c.args.entries.now.items c.push.new.self.items (c.reply-value.ensures r) kept c.finish.ensures c.push.ensures.items
