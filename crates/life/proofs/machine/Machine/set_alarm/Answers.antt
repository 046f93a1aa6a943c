use Rattle.std.proofs.Common.{◌≡◌, ◌∙◌, ap, rules, sym, subst, Option, ℕ}
use Rattle.posix.specs.Common.{Process, changed, State, IsAhead, with_alarm, due_in}
use Rattle.posix.proofs.RegularLemmas.{keeps_with_alarm, due_ahead}
use Rattle.posix.proofs.ResultLemmas.{is_there}
use Rattle.life.proofs.SignalLemmas.{only_alarm}
use Rattle.jobs.proofs.RunLemmas.{run_as, signals_as}
use Rattle.life.proofs.FunnelLemmas.{stays_regular, has_run}
use Rattle.life.specs.Machines.{with_processes}
use Rattle.life.proofs.ViewLemmas.{state_is}
use Rattle.life.proofs.machine.Machine.set_alarm.Goals as goal

pub change-before-requires-clause-signals : goal.change-before-requires-clause-signals
change-before-requires-clause-signals g c =
    signals_as c.args.pid (with_alarm c.due_in-due.result) (only_alarm c.due_in-due.result) (λ b d r k q. search rules)

pub change-before-requires-clause-regular : goal.change-before-requires-clause-regular
change-before-requires-clause-regular g c =
    let due = c.due_in-due.ensures ∙ ap (λ (s : State). due_in s.ticks c.args.ticks) (state_is c.self.view_is) in
    stays_regular c.args.pid (with_alarm c.due_in-due.result) c.args.self.now.state (keeps_with_alarm c.due_in-due.result (subst (IsAhead c.args.self.now.state.ticks) (sym due) (due_ahead c.args.self.now.state.ticks c.args.ticks c.requires.few))) (λ b d r k q. search rules)

-- what the change answers
abbrev answers : Process → Option ℕ → Type 0
answers r alarm = alarm ≡ r.alarm

pub ticks_left-requires : goal.ticks_left-requires
ticks_left-requires g c =
    let now = ap (λ (s : State). s.ticks) (state_is c.self-2.view_is ∙ c.change-before.ensures.changes.state) in
    let regular = c.change-before.ensures.changes.costs.regular in
    let ran = has_run (with_alarm c.due_in-due.result) answers c.change-before.ensures.run regular.rising (is_there _ _ c.requires.there.found) (λ b d r k q. (search rules, search rules)) in
    subst (λ n. IsAhead n c.change-before.result) (sym now) (subst (IsAhead c.args.self.now.state.ticks) (sym ran.says) (regular.alarms c.args.pid _ ran.me.found))

pub returns-clause-changes : goal.returns-clause-changes
returns-clause-changes g c =
    let due = c.due_in-due.ensures ∙ ap (λ (s : State). due_in s.ticks c.args.ticks) (state_is c.self.view_is) in
    record {
      state =
          c.change-before.ensures.changes.state ∙ ap (with_processes c.args.self.now.state) (run_as (with_alarm c.due_in-due.result) c.change-before.ensures.run c.change-before.ensures.changes.costs.regular.rising (λ b d r k q. search rules))
          ∙ ap (λ (a : Option ℕ). record (c.args.self.now.state) { processes = changed c.args.pid (with_alarm a) c.args.self.now.state.processes }) due;
      to_recheck = c.change-before.ensures.changes.to_recheck;
      foregrounds_unchecked = c.change-before.ensures.changes.foregrounds_unchecked;
      costs = c.change-before.ensures.changes.costs;
    }
