use Rattle.std.proofs.Common.{sym, subst, ap, rules, ◌∙◌, arith}
use Rattle.posix.specs.Common.{State, lookup}
use Rattle.life.specs.Changes.{StaysRegular}
use Rattle.life.specs.Machines.{MachineView}
use Rattle.life.specs.Rechecks.{rechecking_by_signals}
use Rattle.life.proofs.RecheckLemmas.{has_room, pids_of, room_of}
use Rattle.life.proofs.FunnelLemmas.{machine_run, by_signals}
use Rattle.posix.proofs.TableLemmas.{pid_looked}
use Rattle.life.proofs.ViewLemmas.{state_is}
use Rattle.life.proofs.machine.Machine.change.Goals as goal

pub recheck_where-requires : goal.recheck_where-requires
recheck_where-requires g c = has_room _ _ c.self.invariant.sound.regular c.self.invariant.listed

pub invariant_of-self : goal.invariant_of-self
invariant_of-self g c =
    let run = c.change-result.ensures.run in
    let stays = subst (λ (s : State). StaysRegular g.F.FnOnce c.args.change s c.args.pid) (sym (state_is c.self.view_is)) c.requires.regular in
    machine_run _ _ _ _ c.recheck_where.new.to_recheck c.args.pid run.before run.after _ run.found run.is (c.requires.signals _ _ _ run.ran) (stays c.self.invariant.sound.regular _ _ _ run.found run.ran) c.self.invariant (pids_of c.recheck_where.ensures ∙ by_signals _ c.args.pid _ _ _ (pid_looked c.args.pid _) c.change-result.ensures.takes) (room_of c.recheck_where.ensures)

pub returns-clause-changes : goal.returns-clause-changes
returns-clause-changes g c =
    let old = state_is c.self.view_is in
    let state = ap (λ (s : State). record s { processes = c.change-result.new.self.processes }) old in
    let to_recheck = pids_of c.recheck_where.ensures ∙ by_signals _ c.args.pid _ _ _ (pid_looked c.args.pid _) c.change-result.ensures.takes ∙ ap (λ (m : MachineView). rechecking_by_signals (lookup c.args.pid c.change-result.new.self.processes) m.state.order m.to_recheck) c.self.view_is in
    search (rules, arith)
