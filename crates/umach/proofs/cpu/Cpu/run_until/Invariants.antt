use Rattle.std.proofs.Common.{◌≡◌, ◌-◌}
use Rattle.umach.specs.Bursts.{exec_until}
use Rattle.umach.proofs.BurstLemmas.{later}
use Rattle.umach.proofs.cpu.Cpu.run_until.Given as goal

abbrev pub invariant-loop-done : goal.invariant-loop-done
invariant-loop-done l = exec_until l.program.instructions l.fn.most l.fn.self ≡ later l.done (exec_until l.program.instructions (l.fn.most - l.done) l.self)
