use Rattle.std.proofs.Common.{◌+◌, ◌∙◌, ap, rules, arith}
use Rattle.posix.specs.Common.{ring_at}
use Rattle.posix.proofs.RegularLemmas.{keeps_ring}
use Rattle.life.proofs.SignalLemmas.{only_ring}
use Rattle.jobs.proofs.RunLemmas.{run_as, signals_as}
use Rattle.life.proofs.FunnelLemmas.{stays_regular}
use Rattle.life.specs.Machines.{with_processes}
use Rattle.life.proofs.machine.Machine.ring.Goals as goal

pub change-requires-clause-signals : goal.change-requires-clause-signals
change-requires-clause-signals g c = let now = c.args.self.now.state.ticks + 1 in signals_as c.args.pid (ring_at now) (only_ring now) (λ b d r k q. search rules)

pub change-requires-clause-regular : goal.change-requires-clause-regular
change-requires-clause-regular g c = let now = c.args.self.now.state.ticks + 1 in stays_regular c.args.pid (ring_at now) c.args.self.now.state (keeps_ring now) (λ b d r k q. search rules)

pub returns : goal.returns
returns g c =
    let state = c.change.ensures.changes.state ∙ ap (with_processes c.args.self.now.state) (run_as (ring_at (c.args.self.now.state.ticks + 1)) c.change.ensures.run c.change.ensures.changes.costs.regular.rising (λ b d r k q. search rules)) in
    search (rules, arith)
