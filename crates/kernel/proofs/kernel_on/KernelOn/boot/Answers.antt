use Rattle.std.proofs.Common.{sym, subst, arith, ◌≤◌, []}
use Rattle.posix.specs.Common.{State, IsSettled}
use Rattle.posix.proofs.WakeLemmas.{first_settled}
use Rattle.laws.specs.Agree.{Agree, IsOrderly}
use Rattle.laws.proofs.AgreeRuns.{first_orderly, first_agrees}
use Rattle.kernel.proofs.kernel_on.KernelOn.boot.Goals as goal

pub invariant_of-result : goal.invariant_of-result
invariant_of-result g c =
    let is = c.in_ok-boot.ensures.state in (
      subst (λ (s : State). s.births ≤ 1) (sym is) (omega arith),
      subst (λ (s : State). s.ticks ≤ 0) (sym is) (omega arith),
      subst IsSettled (sym is) (first_settled c.args.world.now),
      c.in_ok-boot.ensures.regular,
      c.in_ok-boot.ensures.to_recheck,
      c.in_ok-boot.ensures.foregrounds_unchecked,
      subst IsOrderly (sym is) (first_orderly c.args.world.now c.range_holds.ensures),
    )

pub returns-clause-settled : goal.returns-clause-settled
returns-clause-settled g c = subst IsSettled (sym c.in_ok-boot.ensures.state) (first_settled c.args.world.now)

pub returns-clause-orderly : goal.returns-clause-orderly
returns-clause-orderly g c = subst IsOrderly (sym c.in_ok-boot.ensures.state) (first_orderly c.args.world.now c.range_holds.ensures)

pub returns-clause-agrees : goal.returns-clause-agrees
returns-clause-agrees g c = subst (λ (s : State). Agree [] 0 s) (sym c.in_ok-boot.ensures.state) (first_agrees c.args.world.now)
