use Rattle.std.proofs.Common.{sym, subst}
use Rattle.posix.specs.Common.{State, process, IsPlaced, IsRegular, wait_by}
use Rattle.calls.specs.Outcomes.{Comes}
use Rattle.life.specs.Callers.{process_like}
use Rattle.calls.proofs.CallLemmas.{wait_of}
use Rattle.calls.proofs.waits.wait.Goals as goal

pub wait_as-requires-clause-regular : goal.wait_as-requires-clause-regular
wait_as-requires-clause-regular g c = subst IsRegular (sym c.caller-me.ensures.finds.looks.same.state) c.caller-me.ensures.finds.looks.regular

pub wait_as-requires-clause-placed : goal.wait_as-requires-clause-placed
wait_as-requires-clause-placed g c =
    subst (λ (t : State). IsPlaced t.processes c.caller-me.result.pid) (sym c.caller-me.ensures.finds.looks.same.state) (subst (IsPlaced c.args.machine.now.state.processes) (sym c.caller-me.ensures.pid) c.requires.placed)

pub returns-clause-comes : goal.returns-clause-comes
returns-clause-comes g c = λ me e.
    let s = c.args.machine.now.state in
    let cr = c.caller-me.result in
    subst (λ a. Comes s a c.wait_as.result c.args.entries.now.items c.wait_as.new.entries.items c.wait_as.new.machine.state) (wait_of s (process s c.args.pid) me cr c.args.call c.caller-me.ensures.finds.value e)
    (subst (λ (t : State). Comes t (wait_by c.args.call t (process_like cr)) c.wait_as.result c.args.entries.now.items c.wait_as.new.entries.items c.wait_as.new.machine.state) c.caller-me.ensures.finds.looks.same.state c.wait_as.ensures.comes)
