use Rattle.std.proofs.Common.{rules, ◌≡◌, Some, ap, sym, ◌∙◌, subst, refl}
use Rattle.posix.specs.Common.{State, change, process, Process, IsRising, Executed, exec_one, set_cpu}
use Rattle.life.proofs.SoundLemmas.{found_in, here_in}
use Rattle.life.proofs.RecheckLemmas.{has_room, pids_of, room_of}
use Rattle.life.proofs.CodeLemmas.{code_is, get_some, past_none, no_code, same_cpu, stays_by}
use Rattle.life.specs.Machines.{state_of}
use Rattle.life.proofs.LoanLemmas.{machine_lent, cpu_ran, cpu_stays}
use Rattle.life.proofs.ViewLemmas.{state_is}
use Rattle.life.proofs.machine.Machine.exec_one.Goals as goal

pub recheck_later-requires : goal.recheck_later-requires
recheck_later-requires g c = has_room _ _ c.self.invariant.sound.regular c.self.invariant.listed

pub invariant_of-self : goal.invariant_of-self
invariant_of-self g c = machine_lent _ _ _ _ _ c.args.pid (record (c.own.result.now) { cpu = c.exec_one.new.self }) (here_in c.args.pid (state_is c.self.view_is) c.requires.there) c.self.invariant (pids_of c.recheck_later.ensures) (room_of c.recheck_later.ensures)

pub returns-in-Some-clause-state : goal.returns-in-Some-clause-state
returns-in-Some-clause-state g c = λ me e.
    let code = code_is c.args.self.now.state me _ _ _ (c.programs.ensures.value ∙ ap (λ (t : State). t.world.programs) (state_is c.self.view_is)) (c.from.ensures ∙ sym (c.requires.program me e)) (get_some _ _ _ (c.in-Some.ensures.lookup.0, c.in-Some.ensures.lookup.1)) in
    let contents = cpu_ran _ c.self.invariant.sound.regular.rising c.args.pid c.own.result.now c.own.ensures.value (λ x. (exec_one c.in-Some.program.now.instructions x).cpu) c.exec_one.new.self c.exec_one.ensures.cpu me (found_in _ _ (state_is c.self.view_is) c.args.pid me e) in
    rw (code, ← c.self.view_is, contents) refl

pub returns-in-Some-clause-stays : goal.returns-in-Some-clause-stays
returns-in-Some-clause-stays g c =
    let m = c.self.inside in
    rw (← c.self.view_is) (stays_by (λ rs. state_of m.world rs m.consoles.items m.pids m.order m.births m.ticks m.dropped m.halted) c.exec_one.result _ _
    (cpu_stays c.exec_one.result _ c.self.invariant.sound.regular.rising c.args.pid c.own.result.now c.exec_one.new.self c.own.ensures.value c.exec_one.ensures.stays))

pub returns-in-None : goal.returns-in-None
returns-in-None g c =
    let s = c.args.self.now.state in
    let none = λ (me : Process) (e : process s c.args.pid ≡ Some me). no_code s me (code_is s me _ _ _ (c.programs.ensures.value ∙ ap (λ (t : State). t.world.programs) (state_is c.self.view_is)) (c.from.ensures ∙ sym (c.requires.program me e)) (past_none _ _ c.in-None.ensures.lookup.0)) in
    let trap = λ (me : Process) (e : process s c.args.pid ≡ Some me). sym (ap (λ (x : Executed). x.trap) (none me e)) in
    let rising = subst (λ (t : State). IsRising t.processes) (state_is c.self.view_is) c.self.invariant.sound.regular.rising in
    let state = λ (me : Process) (e : process s c.args.pid ≡ Some me). same_cpu s c.args.pid me rising e ∙ ap (λ (x : Executed). change s c.args.pid (set_cpu x.cpu)) (sym (none me e)) in
    search rules
