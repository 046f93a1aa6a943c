use Rattle.std.proofs.Common.{ap, is_some, rules}
use Rattle.proctable.specs.Records.{queued}
use Rattle.jobs.proofs.RunLemmas.{signals_as}
use Rattle.life.proofs.FunnelLemmas.{stays_regular, has_run}
use Rattle.life.proofs.QueueLemmas.{only_queued, keeps_queued, comes_back, queue_ends, queue_leaves}
use Rattle.life.proofs.machine.Machine.queue.Goals as goal

pub change-left-requires-clause-signals : goal.change-left-requires-clause-signals
change-left-requires-clause-signals g c = signals_as c.args.pid (queued (is_some c.take-pool.result) c.args.signal) (only_queued (is_some c.take-pool.result) c.args.signal) (λ b d r k q. search rules)

pub change-left-requires-clause-regular : goal.change-left-requires-clause-regular
change-left-requires-clause-regular g c = stays_regular c.args.pid (queued (is_some c.take-pool.result) c.args.signal) c.args.self.now.state (keeps_queued (is_some c.take-pool.result) c.args.signal) (λ b d r k q. search rules)

pub returns-clause-changes : goal.returns-clause-changes
returns-clause-changes g c =
    let did = c.change-left.ensures.changes in
    queue_ends (g.S.Pools.pools c.args.pools.now) c.args.pid c.args.signal c.take-pool.result c.change-left.result c.args.self.now c.change-left.new.self
    (has_run (queued (is_some c.take-pool.result) c.args.signal) (comes_back c.args.signal.sig c.take-pool.result) c.change-left.ensures.run did.costs.regular.rising c.requires.there (λ b d r k q. (search rules, search rules)))
    c.requires.realtime c.requires.room (λ some. ap is_some (c.take-pool.ensures.pool some)) did

pub returns-clause-pools : goal.returns-clause-pools
returns-clause-pools g c =
    let taken = c.take-pool.ensures in
    queue_leaves (g.S.Pools.pools c.args.pools.now) (g.S.Pools.pools c.take-pool.new.self) (g.S.Pools.room c.take-pool.new.self) (g.S.Pools.pools c.put.new.self) c.args.pid c.args.signal c.take-pool.result c.change-left.result c.args.self.now.state.processes c.change-left.new.self.state.processes
    (has_run (queued (is_some c.take-pool.result) c.args.signal) (comes_back c.args.signal.sig c.take-pool.result) c.change-left.ensures.run c.change-left.ensures.changes.costs.regular.rising c.requires.there (λ b d r k q. (search rules, search rules)))
    taken.rest taken.pool taken.room c.put.ensures.kept c.put.ensures.more
