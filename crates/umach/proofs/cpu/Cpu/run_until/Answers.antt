use Rattle.std.proofs.Common.{ap, sym, arith}
use Rattle.umach.specs.Bursts.{Burst}
use Rattle.umach.proofs.BurstLemmas.{left_later, left_ends, left_none}
use Rattle.umach.proofs.cpu.Cpu.run_until.Goals as goal

pub returns-in_default-clause-count : goal.returns-in_default-clause-count
returns-in_default-clause-count c =
    sym (ap (λ (b : Burst). b.count) (left_ends _ _ _ _ _ _ _ c.loop-done-test.true c.exec_one.ensures.trap c.exec_one.ensures.cpu c.in_default.not-Next c.exec_one.ensures.stays c.loop-done.invariant))

pub returns-in_default-clause-trap : goal.returns-in_default-clause-trap
returns-in_default-clause-trap c =
    sym (ap (λ (b : Burst). b.trap) (left_ends _ _ _ _ _ _ _ c.loop-done-test.true c.exec_one.ensures.trap c.exec_one.ensures.cpu c.in_default.not-Next c.exec_one.ensures.stays c.loop-done.invariant))

pub returns-in_default-clause-cpu : goal.returns-in_default-clause-cpu
returns-in_default-clause-cpu c =
    sym (ap (λ (b : Burst). b.cpu) (left_ends _ _ _ _ _ _ _ c.loop-done-test.true c.exec_one.ensures.trap c.exec_one.ensures.cpu c.in_default.not-Next c.exec_one.ensures.stays c.loop-done.invariant))

pub loop-done-preserved : goal.loop-done-preserved
loop-done-preserved c =
    left_later _ _ _ _ c.loop-done.self _ _ c.loop-done-test.true c.exec_one.ensures.trap c.exec_one.ensures.cpu c.in-Next.is c.loop-done.invariant

pub returns-clause-count : goal.returns-clause-count
returns-clause-count c = sym (ap (λ (b : Burst). b.count) (left_none _ _ _ _ _ (omega arith) c.loop-done.invariant))

pub returns-clause-trap : goal.returns-clause-trap
returns-clause-trap c = sym (ap (λ (b : Burst). b.trap) (left_none _ _ _ _ _ (omega arith) c.loop-done.invariant))

pub returns-clause-cpu : goal.returns-clause-cpu
returns-clause-cpu c = sym (ap (λ (b : Burst). b.cpu) (left_none _ _ _ _ _ (omega arith) c.loop-done.invariant))
