use Rattle.std.proofs.Common.{◌≡◌, ◌∙◌, ap, sym, subst, option_map, inl, inr, rules, slice_get, ◌||◌, true}
use Rattle.std.proofs.lemmas.Option.{same_Some}
use Rattle.posix.specs.Common.{Console, disconnected, State, is_in}
use Rattle.posix.proofs.ConsoleLemmas.{session_disconnected}
use Rattle.pidset.specs.Indexes.{is_pair_in}
use Rattle.pidset.specs.Numbers.{Rises}
use Rattle.life.specs.Consoles.{IsSameTerminal, AreReaders}
use Rattle.life.specs.Machines.{MachineView}
use Rattle.life.proofs.ConsoleLemmas.{foreground_disconnected}
use Rattle.life.proofs.ReadingLemmas.{readers_wait}
use Rattle.life.proofs.ViewLemmas.{state_is}
use Rattle.life.proofs.machine.Machine.lose_line.Goals as goal

pub change_console-requires-clause-can : goal.change_console-requires-clause-can
change_console-requires-clause-can g c = λ it d r at did.
    let is : d ≡ disconnected it = search rules in
    let same : IsSameTerminal it (disconnected it) = (session_disconnected it, foreground_disconnected it) in
    let here = ap (λ (s : State). slice_get s.consoles c.args.console_index) (sym (state_is c.recheck_readers.ensures.rest)) ∙ at in
    let own = same_Some _ _ (c.in_ok-session.ensures.value ∙ ap (option_map (λ (x : Console). x.session)) here) in
    let theirs = subst (λ n. AreReaders c.recheck_readers.new.self.state n c.recheck_readers.new.self.to_recheck) own c.recheck_readers.ensures.to_recheck in
    rw is (record { session = inl same.0; readers = inr theirs; foreground = inl same })

pub returns-clause-readers : goal.returns-clause-readers
returns-clause-readers g c = λ none awake it at.
    let did = c.recheck_readers.ensures in
    let list = ap (λ (m : MachineView). m.to_recheck) c.self-2.view_is in
    let here = ap (λ (s : State). slice_get s.consoles c.args.console_index) (state_is did.rest) ∙ at in
    let own = same_Some _ _ (c.in_ok-session.ensures.value ∙ ap (option_map (λ (x : Console). x.session)) at) in
    let run = rw here at c.change_console.ensures.state in
    let same = ap (λ (s : State). s.processes) run.4 ∙ ap (λ (s : State). s.processes) (state_is did.rest) in
    rw (same, ap (λ (m : MachineView). m.to_recheck) c.change_console.ensures.rest)
    (readers_wait _ _ c.recheck_readers.new.self.to_recheck c.args.console_index it did.regular did.watched awake none at (subst Rises list c.self-2.invariant.listed.rising) (λ p on. subst (λ n. (is_in p c.args.self.now.to_recheck || is_pair_in n p c.args.self.now.readers.pairs) ≡ true) own (did.those p on)))
