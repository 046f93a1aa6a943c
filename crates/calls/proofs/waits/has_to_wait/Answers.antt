use Rattle.std.proofs.Common.{◌∙◌, ap}
use Rattle.posix.specs.Common.{State, process, wait_by, is_block}
use Rattle.life.specs.Callers.{process_like}
use Rattle.calls.proofs.CallLemmas.{wait_of}
use Rattle.calls.proofs.waits.has_to_wait.Goals as goal

pub returns-clause-value : goal.returns-clause-value
returns-clause-value g c = λ me e.
    let s = c.args.machine.now.state in
    let cr = c.caller-me.result in
    c.would_wait.ensures.value ∙ ap (λ (t : State). is_block (wait_by c.args.call t (process_like cr))) c.caller-me.ensures.finds.looks.same.state ∙ ap is_block (wait_of s (process s c.args.pid) me cr c.args.call c.caller-me.ensures.finds.value e)
