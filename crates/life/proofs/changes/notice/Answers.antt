use Rattle.std.proofs.Common.{refl, rules}
use Rattle.posix.specs.Common.{noticed_of_change}
use Rattle.jobs.proofs.RunLemmas.{signals_as}
use Rattle.life.proofs.SignalLemmas.{only_noticed_of_change}
use Rattle.life.proofs.FunnelLemmas.{is_noticed}
use Rattle.life.proofs.changes.notice.Goals as goal

pub change-awaits-requires-clause-signals : goal.change-awaits-requires-clause-signals
change-awaits-requires-clause-signals g c = signals_as c.args.parent (noticed_of_change c.child_signal-signal.result) (only_noticed_of_change c.child_signal-signal.result) (λ b d r k q. search rules)

pub returns-then-awaits : goal.returns-then-awaits
returns-then-awaits g c =
    let did = c.change-awaits.ensures in
    let n = is_noticed c.args.child c.args.status c.args.seen.now _ _ c.child_signal-signal.ensures did.run c.requires.rising c.requires.there (λ b d r k q. (search rules, search rules)) did.takes (rw c.if-awaits.true refl) in
    record { processes = n.processes; acts = n.acts; costs = did.costs }

pub returns-else-awaits : goal.returns-else-awaits
returns-else-awaits g c =
    let did = c.change-awaits.ensures in
    let n = is_noticed c.args.child c.args.status c.args.seen.now _ _ c.child_signal-signal.ensures did.run c.requires.rising c.requires.there (λ b d r k q. (search rules, search rules)) did.takes (rw c.if-awaits.false refl) in
    record { processes = n.processes; acts = n.acts; costs = did.costs }
