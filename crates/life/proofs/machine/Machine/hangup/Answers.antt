use Rattle.std.proofs.Common.{◌≡◌, ◌∙◌, suc, ap, sym, refl, arith, true, false, not, is_some}
use Rattle.posix.specs.Common.{State, process, HUP, from_kernel, generated_for}
use Rattle.posix.proofs.ResultLemmas.{none_from, none_mapped, some_mapped, there}
use Rattle.life.specs.Machines.{with_processes}
use Rattle.life.proofs.ConsoleLemmas.{hangup_nowhere, hangup_past, hangup_told, hangup_untold}
use Rattle.life.proofs.ReadingLemmas.{need_no_child}
use Rattle.life.proofs.TakingLemmas.{brief_none, brief_one}
use Rattle.life.proofs.machine.Machine.hangup.Goals as goal

pub returns-in_default-clause-state : goal.returns-in_default-clause-state
returns-in_default-clause-state g c = hangup_nowhere c.args.self.now.state c.args.console (omega (arith, c.in_default.ensures, c.from.ensures))

pub returns-in_default-clause-brief : goal.returns-in_default-clause-brief
returns-in_default-clause-brief g c = λ none awake. brief_none _ _ _ none

pub returns-then-is_none-clause-state : goal.returns-then-is_none-clause-state
returns-then-is_none-clause-state g c =
    let none = none_mapped _ _ (sym (none_from _ (c.is_none.ensures ∙ ap not c.if-is_none.true)) ∙ c.session_at.ensures.value) in
    hangup_past c.args.self.now.state c.args.console c.in-Some.console_index (omega (arith, c.in-Some.ensures, c.from.ensures)) none

pub returns-then-is_none-clause-brief : goal.returns-then-is_none-clause-brief
returns-then-is_none-clause-brief g c = λ none awake. brief_none _ _ _ none

pub returns-in-Some-lose_line-clause-state : goal.returns-in-Some-lose_line-clause-state
returns-in-Some-lose_line-clause-state g c =
    let it = there _ (sym (ap is_some c.session_at.ensures.value ∙ some_mapped _ _) ∙ c.is_none.ensures ∙ ap not c.if-is_none.false) in
    let leader = c.in-Some-lose_line.leader in
    c.signal_process.ensures.state
    ∙ ap (λ (s : State). with_processes s (generated_for (record { sig = HUP; carried = from_kernel }) (process s leader) s.processes)) (c.lose_line.ensures.state it.what it.found)
    ∙ hangup_told c.args.self.now.state c.args.console c.in-Some.console_index it.what leader (omega (arith, c.in-Some.ensures, c.from.ensures)) it.found (sym c.in-Some-lose_line.is ∙ c.lose_line.ensures.told it.what it.found)

pub returns-in_default-lose_line-clause-state : goal.returns-in_default-lose_line-clause-state
returns-in_default-lose_line-clause-state g c =
    let it = there _ (sym (ap is_some c.session_at.ensures.value ∙ some_mapped _ _) ∙ c.is_none.ensures ∙ ap not c.if-is_none.false) in
    c.lose_line.ensures.state it.what it.found
    ∙ hangup_untold c.args.self.now.state c.args.console c.in-Some.console_index it.what (omega (arith, c.in-Some.ensures, c.from.ensures)) it.found (sym c.in_default-lose_line.is ∙ c.lose_line.ensures.told it.what it.found)

pub returns-in-Some-lose_line-clause-brief : goal.returns-in-Some-lose_line-clause-brief
returns-in-Some-lose_line-clause-brief g c = λ none awake.
    let it = there _ (sym (ap is_some c.session_at.ensures.value ∙ some_mapped _ _) ∙ c.is_none.ensures ∙ ap not c.if-is_none.false) in
    let number : c.args.console ≡ suc c.in-Some.console_index = omega (arith, c.in-Some.ensures, c.from.ensures) in
    let wait = c.lose_line.ensures.readers none awake it.what it.found in
    let mid = c.lose_line.new.self in
    let one = brief_one HUP c.in-Some-lose_line.leader mid.state.order mid.state.processes mid.to_recheck refl wait.0 in
    let few = wait.1 in
    let more = one.1 in
    rw (number, it.found, c.signal_process.ensures.to_recheck, ap (λ (s : State). s.processes) c.signal_process.ensures.state) (one.0, omega (arith, few, more))

pub returns-in_default-lose_line-clause-brief : goal.returns-in_default-lose_line-clause-brief
returns-in_default-lose_line-clause-brief g c = λ none awake.
    let it = there _ (sym (ap is_some c.session_at.ensures.value ∙ some_mapped _ _) ∙ c.is_none.ensures ∙ ap not c.if-is_none.false) in
    let number : c.args.console ≡ suc c.in-Some.console_index = omega (arith, c.in-Some.ensures, c.from.ensures) in
    let wait = c.lose_line.ensures.readers none awake it.what it.found in
    let few = wait.1 in
    rw (number, it.found) (need_no_child _ _ wait.0, omega (arith, few))
