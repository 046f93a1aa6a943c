use Rattle.std.proofs.Common.{rules, ◌≡◌, ◌∙◌, ap, sym, Some, None, slice_get}
use Rattle.posix.specs.Common.{State, executed}
use Rattle.life.proofs.SoundLemmas.{here_in}
use Rattle.life.proofs.RecheckLemmas.{has_room, pids_of, room_of}
use Rattle.life.proofs.CodeLemmas.{get_some, past_none}
use Rattle.life.proofs.LoanLemmas.{machine_lent, was_written}
use Rattle.life.proofs.ViewLemmas.{state_is}
use Rattle.life.proofs.machine.Machine.exec.Goals as goal

pub recheck_later-requires : goal.recheck_later-requires
recheck_later-requires g c = has_room _ _ c.self.invariant.sound.regular c.self.invariant.listed

pub invariant_of-self : goal.invariant_of-self
invariant_of-self g c = machine_lent _ _ _ _ _ c.args.pid c.exec.new.self (here_in c.args.pid (state_is c.self.view_is) c.requires) c.self.invariant (pids_of c.recheck_later.ensures) (room_of c.recheck_later.ensures)

pub returns-in-Some : goal.returns-in-Some
returns-in-Some g c =
    let all = c.programs.ensures.value ∙ ap (λ (s : State). s.world.programs) (state_is c.self.view_is) in
    let here = ap (λ ps. slice_get ps c.args.number) (sym all) ∙ ap (λ n. slice_get c.programs.result.now n) (sym c.from.ensures) ∙ get_some _ _ _ (c.in-Some.ensures.lookup.0, c.in-Some.ensures.lookup.1) in
    record {
      done = λ program e.
          let both : Some program ≡ Some c.in-Some.program.now = sym e ∙ here in
          let did = was_written _ c.args.pid c.own.result.now c.exec.new.self (executed c.args.number c.in-Some.program.now) c.self.invariant.sound.regular c.own.ensures.value (λ r. c.exec.ensures c.in-Some.program.now r (sym c.setuid.ensures) (sym c.setgid.ensures)) in
          search rules;
      none = λ e. let no : None ≡ Some c.in-Some.program.now = sym e ∙ here in absurd (cc);
      to_recheck = search rules;
      costs = search rules;
    }

pub returns-in-None-clause-done : goal.returns-in-None-clause-done
returns-in-None-clause-done g c = λ program e.
    let all = c.programs.ensures.value ∙ ap (λ (s : State). s.world.programs) (state_is c.self.view_is) in
    let at = past_none _ _ c.in-None.ensures.lookup.0 in
    let no : Some program ≡ None = sym e ∙ ap (λ ps. slice_get ps c.args.number) (sym all) ∙ ap (λ n. slice_get c.programs.result.now n) (sym c.from.ensures) ∙ at in
    absurd (cc)
