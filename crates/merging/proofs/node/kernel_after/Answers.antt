use Rattle.std.proofs.Common.{arith, ap, [], ◌+◌}
use Rattle.posix.specs.Common.{boot}
use Rattle.merging.proofs.NodeLemmas.{booted_last}
use Rattle.merging.proofs.node.kernel_after.Goals as goal

pub returns-in-Ok : goal.returns-in-Ok
returns-in-Ok c =
    let k = c.in_ok-kernel in
    let e = c.in-Ok.ensures in
    record {
      state = booted_last (k.kernel.events + 1) (boot c.args.world.now) k.kernel.state c.run_all.new.kernel.state c.args.events.now [] c.run_all.new.lines.items (ap (λ n. n + 1) k.ensures.events) k.ensures.state e.adds;
      events = omega (arith, k.ensures.events, e.few);
      regular = e.regular;
      settled = e.settled;
    }
