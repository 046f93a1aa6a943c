use Rattle.std.proofs.Common.{ap, sym, ◌∙◌, subst, refl}
use Rattle.posix.specs.declared.instr.Trap.TheVariants as trap
use Rattle.posix.specs.Common.{State, change, IsRising, set_cpu}
use Rattle.life.specs.NotedBursts.{NotedBurst, most_notes, exec_with_notes}
use Rattle.life.proofs.SoundLemmas.{found_in, here_in}
use Rattle.life.proofs.RecheckLemmas.{has_room, pids_of, room_of}
use Rattle.life.proofs.CodeLemmas.{code_is, get_some, past_none, same_cpu}
use Rattle.life.proofs.NotedBurstLemmas.{no_notes}
use Rattle.life.proofs.LoanLemmas.{machine_lent, cpu_ran}
use Rattle.life.proofs.ViewLemmas.{state_is}
use Rattle.life.proofs.machine.Machine.run_with_notes.Goals as goal

pub recheck_later-requires : goal.recheck_later-requires
recheck_later-requires g c = has_room _ _ c.self.invariant.sound.regular c.self.invariant.listed

pub invariant_of-self : goal.invariant_of-self
invariant_of-self g c = machine_lent _ _ _ _ _ c.args.pid (record (c.own.result.now) { cpu = c.run_with_notes.new.cpu }) (here_in c.args.pid (state_is c.self.view_is) c.requires.there) c.self.invariant (pids_of c.recheck_later.ensures) (room_of c.recheck_later.ensures)

pub returns-in-Some-clause-state : goal.returns-in-Some-clause-state
returns-in-Some-clause-state g c = λ me e.
    let code = code_is c.args.self.now.state me _ _ _ (c.programs.ensures.value ∙ ap (λ (t : State). t.world.programs) (state_is c.self.view_is)) (c.from.ensures ∙ sym (c.requires.program me e)) (get_some _ _ _ (c.in-Some.ensures.lookup.0, c.in-Some.ensures.lookup.1)) in
    let contents = cpu_ran _ c.self.invariant.sound.regular.rising c.args.pid c.own.result.now c.own.ensures.value (λ x. (exec_with_notes c.in-Some.program.now.instructions most_notes c.args.before c.args.last x).cpu) c.run_with_notes.new.cpu (sym (ap (λ (b : NotedBurst). b.cpu) c.run_with_notes.ensures.taken)) me (found_in _ _ (state_is c.self.view_is) c.args.pid me e) in
    rw (code, ← c.self.view_is, contents) refl

pub returns-in-Some-clause-regular : goal.returns-in-Some-clause-regular
returns-in-Some-clause-regular g c = (invariant_of-self g c).sound.regular

pub returns-in-None-clause-taken : goal.returns-in-None-clause-taken
returns-in-None-clause-taken g c = λ me e.
    let code = code_is c.args.self.now.state me _ _ _ (c.programs.ensures.value ∙ ap (λ (s : State). s.world.programs) (state_is c.self.view_is)) (c.from.ensures ∙ sym (c.requires.program me e)) (past_none _ _ c.in-None.ensures.lookup.0) in
    ap (λ (b : NotedBurst). b.taken) (no_notes c.args.self.now.state me c.args.before c.args.last code c.requires.some)
    ∙ ap (λ ns. record { last = c.args.before; notes = ns; trap = trap.Fault 11 }) (sym c.requires.none)

pub returns-in-None-clause-state : goal.returns-in-None-clause-state
returns-in-None-clause-state g c = λ me e.
    let code = code_is c.args.self.now.state me _ _ _ (c.programs.ensures.value ∙ ap (λ (s : State). s.world.programs) (state_is c.self.view_is)) (c.from.ensures ∙ sym (c.requires.program me e)) (past_none _ _ c.in-None.ensures.lookup.0) in
    let rising = subst (λ (s : State). IsRising s.processes) (state_is c.self.view_is) c.self.invariant.sound.regular.rising in
    same_cpu c.args.self.now.state c.args.pid me rising e ∙ ap (λ (b : NotedBurst). change c.args.self.now.state c.args.pid (set_cpu b.cpu)) (sym (no_notes c.args.self.now.state me c.args.before c.args.last code c.requires.some))
