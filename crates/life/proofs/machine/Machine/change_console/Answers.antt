use Rattle.std.proofs.Common.{arith, refl, sym, subst, Some, ◌+◌, ◌∙◌}
use Rattle.std.proofs.lemmas.Option.{slice_get_within}
use Rattle.pidset.specs.Indexes.{CanReplace, IsMoved}
use Rattle.life.proofs.TerminalLemmas.{terminal_moves}
use Rattle.life.specs.Consoles.{CanChange}
use Rattle.life.specs.Machines.{MachineView}
use Rattle.life.proofs.CodeLemmas.{get_some}
use Rattle.life.proofs.ConsoleLemmas.{machine_became}
use Rattle.life.proofs.machine.Machine.change_console.Goals as goal

pub invariant_of-self-2 : goal.invariant_of-self-2
invariant_of-self-2 g c =
    let it = c.in_ok-console.console.now in
    let at = get_some c.self.inside.consoles.items c.args.console_index it (c.in_ok-console.ensures.item.0, c.in_ok-console.ensures.item.1) in
    let can = subst (λ (m : MachineView). CanChange g.F.FnOnce c.args.change m c.args.console_index) (sym c.self.view_is) c.requires.can in
    machine_became _ _ c.args.console_index it c.change-result.new.arg2 refl at (can it c.change-result.new.arg2 c.change-result.result at (record { shown = _; shows = refl; left = _; met = c.change-result.ensures; leaves = refl })) c.self.invariant
    (subst (λ n. IsMoved n (Some c.change-result.new.arg2.session) c.self.inside.terminals.pairs c.replace.new.self.pairs) c.number_of.ensures
    (subst (λ n. IsMoved c.number_of.result (Some n) c.self.inside.terminals.pairs c.replace.new.self.pairs) (c.from-after.ensures ∙ c.number-2.ensures.value ∙ c.session-2.ensures.is) c.replace.ensures.moved))

pub returns-clause-state : goal.returns-clause-state
returns-clause-state g c =
    let at = get_some c.self.inside.consoles.items c.args.console_index c.in_ok-console.console.now (c.in_ok-console.ensures.item.0, c.in_ok-console.ensures.item.1) in
    rw (← c.self.view_is, at) (c.change-result.new.arg2, c.change-result.result, refl, record { shown = _; shows = refl; left = _; met = c.change-result.ensures; leaves = refl }, refl)

pub number_of-requires : goal.number_of-requires
number_of-requires g c =
    let at = get_some c.self.inside.consoles.items c.args.console_index c.in_ok-console.console.now (c.in_ok-console.ensures.item.0, c.in_ok-console.ensures.item.1) in
    let within = slice_get_within c.self.inside.consoles.items c.args.console_index _ at in
    omega (arith, within, c.self.invariant.indexed.few)

pub replace-requires-clause-can : goal.replace-requires-clause-can
replace-requires-clause-can g c =
    let at = get_some c.self.inside.consoles.items c.args.console_index c.in_ok-console.console.now (c.in_ok-console.ensures.item.0, c.in_ok-console.ensures.item.1) in
    let before = c.from-before.ensures ∙ c.number.ensures.value ∙ c.session.ensures.is in
    subst (λ n. CanReplace n (Some c.from-before.result) c.self.inside.terminals) (sym c.number_of.ensures) (subst (λ n. CanReplace (c.args.console_index + 1) (Some n) c.self.inside.terminals) (sym before) (terminal_moves _ _ c.args.console_index _ c.self.invariant.indexed at))
