use Rattle.std.proofs.Common.{arith, ◌∙◌, ap, sym, rules, subst, true}
use Rattle.posix.specs.Common.{ended, IsRegular, is_in, change as change_of}
use Rattle.posix.proofs.TableLemmas.{pid_looked}
use Rattle.pidset.specs.Numbers.{with_number}
use Rattle.jobs.proofs.RunLemmas.{run_as, put_as, put_grouped}
use Rattle.life.specs.Rechecks.{with_parent}
use Rattle.life.specs.Machines.{MachineView, state_of, with_processes}
use Rattle.life.proofs.PartLemmas.{machine_counted}
use Rattle.life.proofs.EndLemmas.{regular_ended}
use Rattle.life.proofs.FunnelLemmas.{stays_so, with_lost, put_session}
use Rattle.life.proofs.MoveLemmas.{ended_put}
use Rattle.life.proofs.machine.Machine.halt.Goals as goal

pub change_seen-requires-clause-regular : goal.change_seen-requires-clause-regular
change_seen-requires-clause-regular g c =
    stays_so 1 (ended c.args.status) c.lose_place.new.self.state (λ i. subst (λ (m : MachineView). IsRegular (change_of m.state 1 (ended c.args.status))) (sym c.lose_place.ensures.is) (regular_ended c.args.status c.args.self.now.state c.lose_place.ensures.regular)) (λ b d r k q. search rules)

pub invariant_of-self : goal.invariant_of-self
invariant_of-self g c =
    let m = c.self.inside in
    machine_counted (state_of m.world m.table.processes m.consoles.items m.pids m.order m.births m.ticks m.dropped m.halted) _ _ _ _ true c.self.invariant.sound.counted c.self.invariant

pub returns : goal.returns
returns g c =
    let s = c.lose_place.new.self.state in
    let is = c.change_seen.ensures.rest ∙ ap (with_processes s) (run_as (ended c.args.status) c.change_seen.ensures.run c.change_seen.ensures.costs.regular.rising (λ b d r k q. search rules)) in
    let first = c.change_seen.ensures.costs.regular.first in
    let to_recheck =
    ap (λ (m : MachineView). m.to_recheck) c.self.view_is ∙ c.change_seen.ensures.to_recheck first.what first.found ∙ ap (λ q. with_parent q c.lose_place.new.self.state.order (with_number first.what.pid c.lose_place.new.self.to_recheck)) first.parent
    ∙ ap (λ q. with_number q c.lose_place.new.self.to_recheck) (pid_looked 1 s.processes first.what first.found) ∙ ap (λ (m : MachineView). with_number 1 m.to_recheck) c.lose_place.ensures.is ∙ with_lost (is_in 1 c.args.self.now.state.order) 1 c.args.self.now.to_recheck in
    let put = c.change_seen.ensures.put (put_as 1 s.processes (ended c.args.status) (λ r e. ended_put c.args.status r) (λ b d r k q. search rules)) in
    let costs = put.0 in
    let still = put.1 in
    search (rules, arith)

pub change_seen-requires-clause-grouped : goal.change_seen-requires-clause-grouped
change_seen-requires-clause-grouped g c = put_grouped _ _ (put_as 1 _ (ended c.args.status) (λ r e. ended_put c.args.status r) (λ b d r k q. search rules))

pub change_seen-requires-clause-session : goal.change_seen-requires-clause-session
change_seen-requires-clause-session g c = put_session _ _ (put_as 1 _ (ended c.args.status) (λ r e. ended_put c.args.status r) (λ b d r k q. search rules))
