use Rattle.std.proofs.Common.{◌≡◌, ◌∙◌, ap, sym, rules}
use Rattle.posix.specs.declared.process.Effect.{Effect}
use Rattle.posix.specs.Common.{Process, signalled, effect_of}
use Rattle.posix.proofs.RegularLemmas.{keeps_signalled}
use Rattle.life.proofs.SignalLemmas.{only_signalled}
use Rattle.posix.proofs.ChangeLemmas.{lookup_signalled, life_signalled, stopped_living, continued_stopped}
use Rattle.jobs.proofs.RunLemmas.{signals_as}
use Rattle.life.proofs.FunnelLemmas.{stays_regular, has_run, signal_ends, signal_continues}
use Rattle.posix.specs.declared.process.PendingSignal.{PendingSignal}
use Rattle.life.specs.Machines.{with_processes}
use Rattle.life.proofs.machine.Machine.signal.Goals as goal

pub change-requires-clause-signals : goal.change-requires-clause-signals
change-requires-clause-signals g c = signals_as c.args.pid (signalled c.args.signal) (only_signalled c.args.signal) (λ b d r k q. search rules)

pub change-requires-clause-regular : goal.change-requires-clause-regular
change-requires-clause-regular g c = stays_regular c.args.pid (signalled c.args.signal) c.args.self.now.state (keeps_signalled c.args.signal) (λ b d r k q. search rules)

-- the outcome of the change
abbrev responds : PendingSignal → Process → Effect → Type 0
responds signal r e = e ≡ effect_of r.pid r.life signal r.signals

pub continue_process-requires : goal.continue_process-requires
continue_process-requires g c =
    let ran = has_run (signalled c.args.signal) (responds c.args.signal) c.change.ensures.run c.change.ensures.changes.costs.regular.rising c.requires.there (λ b d r k q. (search rules, search rules)) in
    let it = record (ran.me.what) { pid = c.args.pid } in
    rw ran.is (record {
      what = signalled c.args.signal it;
      found = lookup_signalled c.args.signal it c.args.pid _ ran.me.found;
      living = life_signalled c.args.signal it ∙ stopped_living it.life (continued_stopped c.args.pid c.args.signal it (sym ran.says ∙ c.in-Continued.is));
    })

pub returns-in-Nothing : goal.returns-in-Nothing
returns-in-Nothing g c =
    let did = c.change.ensures.changes in
    let ran = has_run (signalled c.args.signal) (responds c.args.signal) c.change.ensures.run did.costs.regular.rising c.requires.there (λ b d r k q. (search rules, search rules)) in
    signal_ends c.args.signal c.args.pid _ _ ran.me.what ran.me.found (sym c.in-Nothing.is ∙ ran.says) (did.state ∙ ap (with_processes c.args.self.now.state) ran.is) did.to_recheck did.foregrounds_unchecked did.costs

pub returns-in-Continued : goal.returns-in-Continued
returns-in-Continued g c =
    let did = c.change.ensures.changes in
    let ran = has_run (signalled c.args.signal) (responds c.args.signal) c.change.ensures.run did.costs.regular.rising c.requires.there (λ b d r k q. (search rules, search rules)) in
    signal_continues c.args.signal c.args.pid _ _ _ ran.me.what ran.me.found (sym c.in-Continued.is ∙ ran.says) (did.state ∙ ap (with_processes c.args.self.now.state) ran.is) did.to_recheck did.foregrounds_unchecked did.costs c.continue_process.ensures
