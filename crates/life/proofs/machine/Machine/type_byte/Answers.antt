use Rattle.std.proofs.Common.{◌≡◌, ◌∙◌, ap, sym, subst, option_map, true, ◌==◌, ◌||◌, ⊎_elim, inl, inr, rules, slice_get}
use Rattle.std.proofs.lemmas.Bool.{cases_Bool, or_parts}
use Rattle.std.proofs.lemmas.Option.{same_Some}
use Rattle.posix.specs.Common.{Console, keyed, State, is_in}
use Rattle.pidset.specs.Indexes.{is_pair_in}
use Rattle.pidset.specs.Numbers.{Rises}
use Rattle.life.proofs.ReadingLemmas.{need_no_child, readers_wait}
use Rattle.life.proofs.ViewLemmas.{state_is}
use Rattle.life.specs.Consoles.{IsSameTerminal, AreReaders}
use Rattle.life.specs.Machines.{MachineView}
use Rattle.posix.proofs.ConsoleLemmas.{session_keyed}
use Rattle.life.proofs.ConsoleLemmas.{foreground_keyed, hung_up_keyed, lines_keyed, key_is_no_end}
use Rattle.life.proofs.machine.Machine.type_byte.Goals as goal

pub change_console-requires-clause-can : goal.change_console-requires-clause-can
change_console-requires-clause-can g c = λ it d r at did.
    let byte = c.args.byte in
    let is : d ≡ keyed byte it = search rules in
    let same : IsSameTerminal it (keyed byte it) = (session_keyed byte it, foreground_keyed byte it) in
    let here = ap (λ (s : State). slice_get s.consoles c.args.console_index) (sym (state_is c.recheck_at_line_end.ensures.rest)) ∙ at in
    let own = same_Some _ _ (c.in_ok-session.ensures.value ∙ ap (option_map (λ (x : Console). x.session)) here) in
    let readers = ⊎_elim (λ ends. inr (subst (λ n. AreReaders c.recheck_at_line_end.new.self.state n c.recheck_at_line_end.new.self.to_recheck) own (c.recheck_at_line_end.ensures.to_recheck ends))) (λ quiet. let each = or_parts (byte == 10) (byte == 4) quiet in inl (same, hung_up_keyed byte it, lines_keyed byte it each.0 each.1)) (cases_Bool (byte == 10 || byte == 4)) in
    rw is (record { session = inl same.0; readers = readers; foreground = inl same })

pub returns-clause-readers : goal.returns-clause-readers
returns-clause-readers g c = λ none awake it at.
    let did = c.recheck_at_line_end.ensures in
    let list = ap (λ (m : MachineView). m.to_recheck) c.self-2.view_is in
    let here = ap (λ (s : State). slice_get s.consoles c.args.console_index) (state_is did.rest) ∙ at in
    let own = same_Some _ _ (c.in_ok-session.ensures.value ∙ ap (option_map (λ (x : Console). x.session)) at) in
    let run = rw here at c.change_console.ensures.state in
    let same = ap (λ (s : State). s.processes) run.4 ∙ ap (λ (s : State). s.processes) (state_is did.rest) in
    let wait = readers_wait _ _ c.recheck_at_line_end.new.self.to_recheck c.args.console_index it did.regular did.watched awake none at (subst Rises list c.self-2.invariant.listed.rising) (λ p on. subst (λ n. (is_in p c.args.self.now.to_recheck || is_pair_in n p c.args.self.now.readers.pairs) ≡ true) own (did.those p on)) in
    rw (same, ap (λ (m : MachineView). m.to_recheck) c.change_console.ensures.rest) (need_no_child _ _ wait.0, wait.1)

pub returns-clause-quiet : goal.returns-clause-quiet
returns-clause-quiet g c = λ some. ap (λ (m : MachineView). m.to_recheck) c.change_console.ensures.rest ∙ c.recheck_at_line_end.ensures.quiet (key_is_no_end c.args.byte some)
