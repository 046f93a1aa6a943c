use Rattle.std.proofs.Common.{◌≡◌, ◌∙◌, ◌<◌, ap, sym, subst, arith, length, false, List, Some, ℕ}
use Rattle.posix.specs.Common.{State, process, without, give_places, wakes, IsNext, lookup, Process, IsRegular}
use Rattle.posix.proofs.SettleLemmas.{asking_begins, asking_ends}
use Rattle.pidset.proofs.WalkLemmas.{none_left}
use Rattle.kernel.proofs.RecheckedLemmas.{same_processes, woken_rests, first_woken, without_first}
use Rattle.std.specs.Option.{IfSome, IsSome}
use Rattle.life.specs.Machines.{MachineView}
use Rattle.posix.proofs.ResultLemmas.{there}
use Rattle.calls.specs.Counts.{neighbour, slots_of_rechecking, slots_of_rechecks}
use Rattle.calls.proofs.CountLemmas.{rechecks_first}
use Rattle.kernel.proofs.settle.give_places.Goals as goal

pub finish_recheck-requires-clause-there : goal.finish_recheck-requires-clause-there
finish_recheck-requires-clause-there g c =
    let s = c.loop-pid.machine.state in
    let pid = c.in-Some.pid in
    subst (λ (rs : List Process). IsSome (lookup pid rs)) (sym (ap (λ (t : State). t.processes) c.wake-session.ensures.state ∙ same_processes s pid)) (subst (λ o. IfSome o (λ p. IsSome (process s p))) c.in-Some.is c.first_to_recheck.ensures.next.there)

pub finish_recheck-requires-clause-waits : goal.finish_recheck-requires-clause-waits
finish_recheck-requires-clause-waits g c = λ r e.
    let pid = c.in-Some.pid in
    let same = c.wake-session.ensures.state in
    subst (λ (t : State). wakes t r ≡ false) (sym same) (woken_rests c.loop-pid.machine.state pid r (ap (λ (t : State). process t pid) (sym same) ∙ e))

pub loop-pid-smaller : goal.loop-pid-smaller
loop-pid-smaller g c =
    let pid = c.in-Some.pid in
    let list = (ap (λ (m : MachineView). m.to_recheck) c.finish_recheck.ensures.rest) ∙ ap (without pid) c.wake-session.ensures.to_recheck in
    subst (λ (ns : List ℕ). length ns < length c.loop-pid.machine.to_recheck) (sym list) (without_first c.loop-pid.machine.to_recheck pid (sym c.first_to_recheck.ensures.is ∙ c.in-Some.is))

pub loop-pid-preserved : goal.loop-pid-preserved
loop-pid-preserved g c =
    let s = c.loop-pid.machine.state in
    let pid = c.in-Some.pid in
    let same = (ap (λ (m : MachineView). m.state) c.finish_recheck.ensures.rest) ∙ c.wake-session.ensures.state in
    let first = subst (IsNext (wakes s) 0 s.processes) c.in-Some.is c.first_to_recheck.ensures.next in
    let processes = ap (λ (t : State). t.processes) same ∙ same_processes s pid in
    let list = (ap (λ (m : MachineView). m.to_recheck) c.finish_recheck.ensures.rest) ∙ ap (without pid) c.wake-session.ensures.to_recheck in
    record {
      places = ap give_places same ∙ first_woken s pid c.first_to_recheck.ensures.regular (subst IsRegular c.wake-session.ensures.state c.finish_recheck.ensures.regular) first ∙ c.loop-pid.invariant.places;
      foregrounds_unchecked = (ap (λ (m : MachineView). m.foregrounds_unchecked) c.finish_recheck.ensures.rest) ∙ c.wake-session.ensures.foregrounds_unchecked ∙ c.loop-pid.invariant.foregrounds_unchecked;
      processes = processes ∙ c.loop-pid.invariant.processes;
      visits =
          let me = there (process s pid) (subst (λ o. IfSome o (λ p. IsSome (process s p))) c.in-Some.is c.first_to_recheck.ensures.next.there) in
          let its = ap (slots_of_rechecking s.processes (neighbour c.loop-pid.last c.loop-pid.machine.to_recheck)) me.found in
          let left = rechecks_first s.processes c.loop-pid.last c.loop-pid.machine.to_recheck pid c.first_to_recheck.ensures.rising (sym c.first_to_recheck.ensures.is ∙ c.in-Some.is) in
          let now = ap (slots_of_rechecks c.finish_recheck.new.self.state.processes (Some pid)) list ∙ ap (λ rs. slots_of_rechecks rs (Some pid) (without pid c.loop-pid.machine.to_recheck)) processes in
          let woke = c.wake-session.ensures.visits me.what me.found in
          let one = ap (λ (m : MachineView). m.visits) c.finish_recheck.ensures.rest in
          let was = c.loop-pid.invariant.visits in
          omega (arith, its, left, now, woke, one, was);
      no_fewer = let one = ap (λ (m : MachineView). m.visits) c.finish_recheck.ensures.rest in omega (arith, one, c.wake-session.ensures.no_fewer, c.loop-pid.invariant.no_fewer);
    }

pub returns-clause-state : goal.returns-clause-state
returns-clause-state g c =
    let s = c.loop-pid.machine.state in
    sym (asking_ends s) ∙ asking_begins s _ c.first_to_recheck.ensures.regular (subst (IsNext (wakes s) 0 s.processes) c.in_default.is c.first_to_recheck.ensures.next) ∙ c.loop-pid.invariant.places

pub returns-clause-to_recheck : goal.returns-clause-to_recheck
returns-clause-to_recheck g c = none_left c.loop-pid.machine.to_recheck (sym c.first_to_recheck.ensures.is ∙ c.in_default.is)
