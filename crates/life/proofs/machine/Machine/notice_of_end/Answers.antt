use Rattle.std.proofs.Common.{◌≡◌, Bool, ◌∙◌, sym, rules}
use Rattle.posix.specs.Common.{Process, noticed, drops_children, notice_of_end}
use Rattle.posix.proofs.RegularLemmas.{keeps_noticed}
use Rattle.life.proofs.SignalLemmas.{only_noticed}
use Rattle.jobs.proofs.RunLemmas.{run_as, signals_as}
use Rattle.life.proofs.FunnelLemmas.{stays_regular, has_run}
use Rattle.life.proofs.PartLemmas.{noticed_here, drops_is, zombie_noticed, parent_noticed}
use Rattle.life.proofs.machine.Machine.notice_of_end.Goals as goal

pub change-drops-requires-clause-signals : goal.change-drops-requires-clause-signals
change-drops-requires-clause-signals g c = signals_as c.args.parent (noticed c.child_signal-signal.result) (only_noticed c.child_signal-signal.result) (λ b d r k q. search rules)

pub change-drops-requires-clause-regular : goal.change-drops-requires-clause-regular
change-drops-requires-clause-regular g c = stays_regular c.args.parent (noticed c.child_signal-signal.result) c.args.self.now.state (keeps_noticed c.child_signal-signal.result) (λ b d r k q. search rules)

pub drop_child-requires-clause-zombie : goal.drop_child-requires-clause-zombie
drop_child-requires-clause-zombie g c =
    let signal = c.child_signal-signal.result in
    rw (run_as (noticed signal) c.change-drops.ensures.run c.change-drops.ensures.changes.costs.regular.rising (λ b d r k q. search rules)) (zombie_noticed c.args.parent signal c.args.child c.args.self.now.state.processes c.requires.zombie.0 c.requires.zombie.1 c.requires.zombie.2)

-- what the change answers
abbrev answers : Process → Bool → Type 0
answers r drops = drops ≡ drops_children r.signals

pub returns-then-drops : goal.returns-then-drops
unfolding notice_of_end
returns-then-drops g c =
    let s = c.args.self.now.state in
    let signal = c.child_signal-signal.result in
    let ran = has_run (noticed signal) answers c.change-drops.ensures.run c.change-drops.ensures.changes.costs.regular.rising c.requires.parent (λ b d r k q. (search rules, search rules)) in
    let drops = sym (drops_is c.args.parent s.processes c.change-drops.result _ ran.me.found ran.says) ∙ c.if-drops.true in
    let here = noticed_here c.args.parent signal s.processes in
    let up = parent_noticed c.args.parent signal c.args.child s.processes in
    rw (← c.child_signal-signal.ensures, drops) (search rules)

pub returns-else-drops : goal.returns-else-drops
unfolding notice_of_end
returns-else-drops g c =
    let signal = c.child_signal-signal.result in
    let ran = has_run (noticed signal) answers c.change-drops.ensures.run c.change-drops.ensures.changes.costs.regular.rising c.requires.parent (λ b d r k q. (search rules, search rules)) in
    let drops = sym (drops_is c.args.parent c.args.self.now.state.processes c.change-drops.result _ ran.me.found ran.says) ∙ c.if-drops.false in
    let here = noticed_here c.args.parent signal c.args.self.now.state.processes in
    rw (← c.child_signal-signal.ensures, drops) (search rules)
