use Rattle.std.proofs.Common.{◌∙◌, ap, sym, is_ok, rules}
use Rattle.std.proofs.lemmas.Bool.{not-true, or_parts}
use Rattle.posix.specs.Common.{lookup, in_session, is_group_of_others}
use Rattle.posix.proofs.GroupLemmas.{regular_session}
use Rattle.jobs.proofs.RunLemmas.{run_as}
use Rattle.life.specs.Machines.{state_of}
use Rattle.life.proofs.FunnelLemmas.{stays_so}
use Rattle.life.proofs.SoundLemmas.{found_in}
use Rattle.life.proofs.ViewLemmas.{state_is}
use Rattle.life.proofs.machine.Machine.new_session.Goals as goal

pub change_seen-requires-clause-regular : goal.change_seen-requires-clause-regular
unfolding in_session
change_seen-requires-clause-regular g c =
    let m = c.self.inside in
    let t = state_of m.world c.can_lead.new.self.processes m.consoles.items m.pids m.order m.births m.ticks m.dropped m.halted in
    let me = c.requires.there in
    let found = found_in _ _ (state_is c.self.view_is) c.args.pid me.what me.found in
    let leads = not-true _ (sym (c.can_lead.ensures.test me.what found) ∙ ap is_ok c.in_ok-can_lead.was) in
    let alone = ap (is_group_of_others me.what) c.can_lead.ensures.looks.processes ∙ (or_parts _ _ leads).1 in
    stays_so c.args.pid in_session t (λ i. regular_session t i me.what c.args.pid (ap (lookup c.args.pid) c.can_lead.ensures.looks.processes ∙ found) alone) (λ b d r k q. search rules)

pub returns-clause-leads : goal.returns-clause-leads
unfolding in_session
returns-clause-leads g c =
    let is = run_as in_session c.change_seen.ensures.run c.change_seen.ensures.costs.regular.rising (λ b d r k q. search rules) in
    search rules
