use Rattle.std.proofs.Common.{◌≡◌, ap, sym, ◌∙◌, subst, refl, arith, length, Some, slice_get}
use Rattle.std.proofs.lemmas.Option.{slice_get_within}
use Rattle.posix.specs.Common.{Console, lines_left, line_taken, State}
use Rattle.tty.specs.Lines.{Takes}
use Rattle.life.proofs.ConsoleLemmas.{machine_put, put_unread, put_changed, none_changed, found_there}
use Rattle.life.proofs.ForegroundLemmas.{fresh_alike}
use Rattle.life.proofs.TerminalLemmas.{terminals_kept}
use Rattle.life.proofs.ViewLemmas.{state_is}
use Rattle.life.proofs.machine.Machine.take_line.Goals as goal

pub returns-in_err-console_index-clause-state : goal.returns-in_err-console_index-clause-state
returns-in_err-console_index-clause-state g c = none_changed _ c.args.session (line_taken (length c.args.out.now)) c.in_err-console_index.ensures

pub index_mut-requires : goal.index_mut-requires
index_mut-requires g c =
    let it = c.in_ok-console_index.ensures in
    let within = slice_get_within _ c.in_ok-console_index.console_index it.0 (ap (λ (s : State). slice_get s.consoles c.in_ok-console_index.console_index) (state_is c.self.view_is) ∙ it.1) in
    omega (arith, within)

pub invariant_of-self : goal.invariant_of-self
unfolding line_taken
invariant_of-self g c =
    let it = c.in_ok-console_index.ensures in
    let console_index = c.in_ok-console_index.console_index in
    let at = found_there _ _ (ap (λ (s : State). s.consoles) (sym (state_is c.self.view_is))) it.1 c.index_mut.ensures.value in
    rw (c.take.ensures.console, at.1) (machine_put _ _ _ _ _ _ _ _ _ _ console_index (line_taken (length c.args.out.now) it.0) c.self.invariant
    (put_unread _ _ console_index it.0 _ c.self.invariant.sound.regular c.self.invariant.listed at.0 refl refl refl (λ e. ap (lines_left (length c.args.out.now)) e))
    (fresh_alike c.self.inside.foregrounds_unchecked c.self.inside.table.processes _ console_index it.0 _ at.0 refl refl c.self.invariant.fresh)
    (terminals_kept _ console_index it.0 _ _ at.0 refl c.self.invariant.indexed))

pub returns-clause-taken : goal.returns-clause-taken
returns-clause-taken g c = λ its found.
    let it = c.in_ok-console_index.ensures in
    let console_index = c.in_ok-console_index.console_index in
    let at = found_there _ _ (ap (λ (s : State). s.consoles) (sym (state_is c.self.view_is))) it.1 c.index_mut.ensures.value in
    let both : Some it.0 ≡ Some its = sym it.2 ∙ found in
    let same : it.0 ≡ its = cc in
    subst (λ (x : Console). Takes x.lines c.args.out.now c.take.new.out c.take.result) (at.1 ∙ same) c.take.ensures.taken

pub returns-clause-state : goal.returns-clause-state
returns-clause-state g c =
    let it = c.in_ok-console_index.ensures in
    let at = found_there _ _ (ap (λ (s : State). s.consoles) (sym (state_is c.self.view_is))) it.1 c.index_mut.ensures.value in
    rw (c.take.ensures.console, at.1, ← c.self.view_is) (put_changed _ c.in_ok-console_index.console_index c.args.session it.0 (line_taken (length c.args.out.now)) c.self.invariant.sound.regular at.0 it.3 c.requires)
