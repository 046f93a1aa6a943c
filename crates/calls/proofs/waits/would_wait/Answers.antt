use Rattle.std.proofs.Common.{ap, sym, ◌∙◌}
use Rattle.posix.specs.Common.{wait_for, is_block}
use Rattle.life.specs.Callers.{process_like}
use Rattle.calls.proofs.CallLemmas.{wait_is}
use Rattle.calls.proofs.ContinueLemmas.{first_reported}
use Rattle.calls.proofs.waits.would_wait.Goals as goal

pub returns-in_default-clause-value : goal.returns-in_default-clause-value
returns-in_default-clause-value g c =
    let s = c.args.machine.now.state in
    let me = c.args.me.now in
    sym (ap is_block (wait_is s (process_like me) c.args.call _ c.asked.ensures) ∙ ap (λ o. is_block (wait_for s me.pid me.group c.args.call o)) c.in_default.is)

pub returns-then-reports_first-clause-value : goal.returns-then-reports_first-clause-value
returns-then-reports_first-clause-value g c =
    let s = c.args.machine.now.state in
    let me = c.args.me.now in
    sym (ap is_block (wait_is s (process_like me) c.args.call _ c.asked.ensures) ∙ ap (λ o. is_block (wait_for s me.pid me.group c.args.call o)) c.in-Some.is
    ∙ first_reported s (process_like me) c.args.first c.args.call c.in-Some.asked (sym c.reports_first.ensures.value ∙ c.if-reports_first.true))
