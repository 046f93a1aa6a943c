use Rattle.std.proofs.Common.{◌∙◌, ap, sym, ◌==◌, ◌++◌, ◌∷◌, [], List, true, false}
use Rattle.posix.specs.declared.entry.Entry.{Entry}
use Rattle.posix.specs.declared.entry.Entry.TheVariants.{Discarded}
use Rattle.posix.specs.Common.{act_by_default, end_process}
use Rattle.posix.proofs.TableLemmas.{pid_looked}
use Rattle.posix.proofs.ResultLemmas.{is_there}
use Rattle.calls.proofs.CallLemmas.{outcome_of}
use Rattle.calls.proofs.DeliveryLemmas.{default_ends, shown_alone, by_default_if, default_rests}
use Rattle.calls.proofs.delivery.act_by_default.Goals as goal

pub end-requires-clause-there : goal.end-requires-clause-there
end-requires-clause-there g c = is_there _ c.requires.placed.what c.requires.placed.found

pub returns-then-eq-clause-state : goal.returns-then-eq-clause-state
returns-then-eq-clause-state g c = λ me e.
    let s = c.args.machine.now.state in
    let named = pid_looked c.args.pid s.processes me e in
    by_default_if s me c.args.sig true (ap (λ n. n == 1) named ∙ sym c.eq.ensures ∙ c.if-eq.true)
    ∙ ap (λ n. outcome_of s (Discarded n c.args.sig ∷ [])) named
    ∙ ap (outcome_of s) (shown_alone _ _ _ c.requires.none c.push.ensures.items)

pub returns-in-Terminate-clause-state : goal.returns-in-Terminate-clause-state
returns-in-Terminate-clause-state g c = λ me e.
    let s = c.args.machine.now.state in
    let named = pid_looked c.args.pid s.processes me e in
    default_ends s me c.args.sig c.end.new.machine.state c.end.new.entries.items (ap (λ n. n == 1) named ∙ sym c.eq.ensures ∙ c.if-eq.false)
    (sym c.default_action.ensures ∙ c.in-Terminate.is)
    (c.end.ensures.state me e ∙ ap (λ w. (end_process s me w).state) c.killed.ensures)
    (c.end.ensures.entries me e ∙ ap (λ (l : List Entry). l ++ (end_process s me c.killed.result).entries) c.requires.none ∙ ap (λ w. (end_process s me w).entries) c.killed.ensures)

pub returns-in-Stop-clause-state : goal.returns-in-Stop-clause-state
returns-in-Stop-clause-state g c = λ me e.
    let s = c.args.machine.now.state in
    let named = pid_looked c.args.pid s.processes me e in
    by_default_if s me c.args.sig false (ap (λ n. n == 1) named ∙ sym c.eq.ensures ∙ c.if-eq.false) ∙ ap (act_by_default s me c.args.sig) (sym c.default_action.ensures ∙ c.in-Stop.is) ∙ c.stop.ensures.state me e

pub returns-in-Ignore-clause-state : goal.returns-in-Ignore-clause-state
returns-in-Ignore-clause-state g c = λ me e.
    let s = c.args.machine.now.state in
    let named = pid_looked c.args.pid s.processes me e in
    by_default_if s me c.args.sig false (ap (λ n. n == 1) named ∙ sym c.eq.ensures ∙ c.if-eq.false)
    ∙ default_rests s me c.args.sig _ _ c.default_action.ensures c.in-Ignore.is
    ∙ ap (λ n. outcome_of s (Discarded n c.args.sig ∷ [])) named
    ∙ ap (outcome_of s) (shown_alone _ _ _ c.requires.none c.push-in-Ignore.ensures.items)
