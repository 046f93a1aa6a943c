use Rattle.std.proofs.Common.{◌+◌, ◌∙◌, ◌≡◌, ℕ, Some, true, ap, sym, subst}
use Rattle.posix.specs.Common.{Process, State, process, IsNext, is_due, has_alarms}
use Rattle.posix.proofs.WalkLemmas.{passing_is_next}
use Rattle.life.proofs.RingLemmas.{next_is_due, quiet_next}
use Rattle.life.proofs.ViewLemmas.{state_is}
use Rattle.life.proofs.machine.Machine.next_due.Goals as goal

pub returns-clause-next : goal.returns-clause-next
returns-clause-next g c =
    let rs = c.self.inside.table.processes in
    let tick = c.self.inside.ticks + 1 in
    subst (λ (s : State). IsNext (λ (r : Process). is_due (s.ticks + 1) r.alarm) c.args.after s.processes c.next_due.result) (state_is c.self.view_is)
    (subst (IsNext (λ (r : Process). is_due tick r.alarm) c.args.after rs) (sym c.next_due.ensures) (passing_is_next (λ r. is_due tick r.alarm) c.args.after rs c.self.invariant.sound.regular.rising))

pub returns-clause-quiet : goal.returns-clause-quiet
returns-clause-quiet g c = λ quiet. c.next_due.ensures ∙ quiet_next (c.self.inside.ticks + 1) c.args.after c.self.inside.table.processes (ap has_alarms (state_is c.self.view_is) ∙ quiet)

pub returns-clause-due : goal.returns-clause-due
returns-clause-due g c =
    subst (λ (s : State). (p : ℕ) (r : Process) → c.next_due.result ≡ Some p → process s p ≡ Some r → is_due (s.ticks + 1) r.alarm ≡ true) (state_is c.self.view_is)
    (next_is_due (c.self.inside.ticks + 1) c.args.after c.self.inside.table.processes c.next_due.result c.self.invariant.sound.regular.rising c.next_due.ensures)
