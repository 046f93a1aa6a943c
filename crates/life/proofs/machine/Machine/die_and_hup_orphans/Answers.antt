use Rattle.std.proofs.Common.{rules, ℕ, ◌≡◌, ◌≤◌, ap, arith, length, ◌∙◌, subst}
use Rattle.posix.specs.Common.{State, process, children_in}
use Rattle.life.specs.Ends.{slots_of_hups, slots_of_orphans}
use Rattle.posix.proofs.HupAndContLemmas.{still_there, lasts_hup_and_cont_all}
use Rattle.posix.proofs.OrphanLemmas.{after_departure}
use Rattle.pidset.specs.Numbers.{Rises}
use Rattle.posix.proofs.ResultLemmas.{is_there, there}
use Rattle.life.proofs.OrphanLemmas.{orphaned_by_end}
use Rattle.life.proofs.machine.Machine.die_and_hup_orphans.Goals as goal

pub returns : goal.returns
returns g c =
    let s = c.args.self.now.state in
    let p = c.args.pid in
    let gone = after_departure s p c.args.heir c.args.status in
    let left : c.leave_children_and_die-parent.new.self.state ≡ gone = c.leave_children_and_die-parent.ensures.state ∙ ap (λ (t : State). after_departure t p c.args.heir c.args.status) c.note_groups_at_risk.ensures.notes.state in
    let me = there _ c.requires.there in
    let gs = c.note_groups_at_risk.new.self.groups_at_risk in
    let up : Rises gs = subst Rises c.leave_children_and_die-parent.ensures.costs.groups_at_risk c.keep_orphans_with_stopped.ensures.rising in
    let orphaned = orphaned_by_end s c.note_groups_at_risk.ensures.notes.regular p c.args.heir c.args.status me.what me.found gs up c.note_groups_at_risk.ensures.groups_at_risk in
    let now = c.keep_orphans_with_stopped.new.self in
    let last = (lasts_hup_and_cont_all now.groups_at_risk now.state.processes c.hup_and_cont_all.ensures.regular.rising).same in
    let zombie = c.leave_children_and_die-parent.ensures.zombie in
    let many = λ (q : ℕ). ap (λ (t : State). length (children_in q t.processes)) c.note_groups_at_risk.ensures.notes.state in
    record {
      state = search rules;
      is = search rules;
      parent = λ me e.
          let here = there _ (c.leave_children_and_die-parent.ensures.parent me (ap (λ (s : State). process s p) c.note_groups_at_risk.ensures.notes.state ∙ e)) in
          let it = still_there me.parent now.state.processes _ last here.what (ap (λ (s : State). process s me.parent) c.keep_orphans_with_stopped.ensures.same ∙ here.found) in
          rw c.hup_and_cont_all.ensures.state (is_there _ it.what it.found);
      zombie =
          let it = still_there p now.state.processes _ last zombie.0 (ap (λ (s : State). process s p) c.keep_orphans_with_stopped.ensures.same ∙ zombie.1) in
          rw c.hup_and_cont_all.ensures.state (it.what, it.found, it.zombie ∙ zombie.2);
      no_fewer = omega (arith, c.note_groups_at_risk.ensures.notes.visits, c.leave_children_and_die-parent.ensures.costs.no_fewer, c.keep_orphans_with_stopped.ensures.visits, c.hup_and_cont_all.ensures.no_fewer);
      visits =
          let slots : slots_of_hups now.groups_at_risk now.state.processes ≡ slots_of_orphans s gone = search rules in
          omega (arith, slots, many p, c.note_groups_at_risk.ensures.notes.visits, c.leave_children_and_die-parent.ensures.costs.visits, c.keep_orphans_with_stopped.ensures.visits, c.hup_and_cont_all.ensures.visits);
    }
