use Rattle.std.proofs.Common.{◌≡◌, ℕ, ◌+◌, ◌*◌, ◌≤◌, None, length, ◌∙◌, ap, sym, arith}
use Rattle.posix.proofs.OrderLemmas.{first_in}
use Rattle.life.specs.declared.consoles.Unchecked.TheVariants.{Nothing}
use Rattle.life.specs.Machines.{MachineView}
use Rattle.life.specs.Rechecks.{AreTaking}
use Rattle.kernel.specs.Counts.{ReadsAtMost, slots_of_settling}
use Rattle.calls.proofs.CountLemmas.{rechecks_taking}
use Rattle.kernel.proofs.CountLemmas.{settling_rechecks}
use Rattle.kernel.proofs.step.tick.Goals as goal

pub go_last-requires : goal.go_last-requires
go_last-requires g c = first_in c.in-Some.pid c.pass_time.new.self.state.order (sym c.current.ensures ∙ c.in-Some.is)

-- what was read by then, and what rechecking reads for processes with a chosen signal
time_reads : (k : ℕ) (old mid : MachineView) → mid.foregrounds_unchecked ≡ Nothing → AreTaking mid.state.processes mid.to_recheck × (length mid.to_recheck ≤ k) → mid.visits ≤ old.visits + k → ReadsAtMost (2 * k) old mid
time_reads k old mid checked taking read =
    settling_rechecks (2 * k) (length mid.to_recheck) old mid checked (rechecks_taking mid.state.processes None mid.to_recheck taking.0) (let few = taking.1 in omega (arith, few, read))

pub returns-in_default-clause-cost : goal.returns-in_default-clause-cost
returns-in_default-clause-cost g c = λ none checked.
    time_reads _ c.args.machine.now c.pass_time.new.self (c.pass_time.ensures.foregrounds_unchecked ∙ checked) (c.pass_time.ensures.taking none) c.pass_time.ensures.costs.visits

pub returns-in-Some-clause-cost : goal.returns-in-Some-clause-cost
returns-in-Some-clause-cost g c = λ none checked.
    let read = time_reads _ c.args.machine.now c.pass_time.new.self (c.pass_time.ensures.foregrounds_unchecked ∙ checked) (c.pass_time.ensures.taking none) c.pass_time.ensures.costs.visits in
    let more = ap (λ (m : MachineView). m.visits + slots_of_settling m) c.go_last.ensures in
    omega (arith, read, more)
