use Rattle.std.proofs.Common.{◌≡◌, ◌∙◌, ap, sym, subst, refl, inl, inr, rules, slice_get, Some}
use Rattle.std.proofs.lemmas.Bool.{or_left}
use Rattle.std.proofs.lemmas.Option.{same_Some}
use Rattle.posix.specs.Common.{Console, changed_console, with_foreground, State}
use Rattle.life.specs.Consoles.{AreReaders, IsTerminalIndex}
use Rattle.life.specs.Machines.{MachineView}
use Rattle.life.proofs.ConsoleLemmas.{terminal_changed, none_changed}
use Rattle.life.specs.Foregrounds.{is_unchecked}
use Rattle.life.proofs.ForegroundLemmas.{own_unchecked}
use Rattle.life.proofs.ViewLemmas.{state_is}
use Rattle.life.proofs.machine.Machine.set_foreground.Goals as goal

pub change_console-requires-clause-can : goal.change_console-requires-clause-can
unfolding with_foreground
change_console-requires-clause-can g c = λ it d r at did.
    let is : d ≡ with_foreground c.args.group it = search rules in
    let here = ap (λ (s : State). slice_get s.consoles c.in-Some.console_index) (state_is c.self-in-Some.view_is ∙ state_is c.recheck_readers.ensures.rest) ∙ c.in-Some.ensures.1 in
    let own = ap (λ (x : Console). x.session) (same_Some _ _ (sym at ∙ here)) ∙ c.in-Some.ensures.3 in
    let theirs = subst (λ (m : MachineView). AreReaders m.state it.session m.to_recheck) (sym c.self-in-Some.view_is) (subst (λ n. AreReaders c.recheck_readers.new.self.state n c.recheck_readers.new.self.to_recheck) (sym own) c.recheck_readers.ensures.to_recheck) in
    rw is (record { session = inl refl; readers = inr theirs; foreground = inr (or_left _ _ (ap (λ u. is_unchecked u (with_foreground c.args.group it)) c.also_in-self-inside.ensures ∙ own_unchecked c.args.session _ (with_foreground c.args.group it) own)) })

pub returns-in-Some-clause-state : goal.returns-in-Some-clause-state
returns-in-Some-clause-state g c =
    let same = state_is c.self-in-Some.view_is ∙ state_is c.recheck_readers.ensures.rest in
    let it = subst (λ (s : State). IsTerminalIndex c.args.session s.consoles (Some c.in-Some.console_index)) (sym same) c.in-Some.ensures in
    terminal_changed _ _ _ _ c.args.session (with_foreground c.args.group) c.change_console.ensures.regular c.requires it c.change_console.ensures.state (λ it d r did. search rules)
    ∙ ap (λ (s : State). record s { consoles = changed_console c.args.session (with_foreground c.args.group) s.consoles }) same

pub returns-in_default-clause-state : goal.returns-in_default-clause-state
returns-in_default-clause-state g c = none_changed _ c.args.session (with_foreground c.args.group) c.in_default.ensures
