use Rattle.std.proofs.Common.{◌∙◌, ap, sym, [], ◌∷◌, true, false}
use Rattle.std.proofs.Math.Nat.{le_trans}
use Rattle.posix.specs.declared.entry.Entry.TheVariants.{Stopped, Discarded}
use Rattle.posix.specs.Common.{State, process, stop_process}
use Rattle.posix.proofs.TableLemmas.{pid_looked}
use Rattle.calls.proofs.CallLemmas.{outcome_of}
use Rattle.calls.proofs.DeliveryLemmas.{shown_alone, stop_if}
use Rattle.calls.proofs.delivery.stop.Goals as goal

pub returns-then-is_stop_discarded-clause-state : goal.returns-then-is_stop_discarded-clause-state
returns-then-is_stop_discarded-clause-state g c = λ me e.
    let s = c.args.machine.now.state in
    let named = pid_looked c.args.pid s.processes me e in
    stop_if s me c.args.sig true (sym (c.is_stop_discarded.ensures.value me e) ∙ c.if-is_stop_discarded.true)
    ∙ ap (λ n. outcome_of s (Discarded n c.args.sig ∷ [])) named
    ∙ ap (λ (t : State). outcome_of t (Discarded c.args.pid c.args.sig ∷ [])) (sym c.is_stop_discarded.ensures.same)
    ∙ ap (outcome_of c.is_stop_discarded.new.machine.state) (shown_alone _ _ _ c.requires.none c.push.ensures.items)

pub returns-else-is_stop_discarded-clause-state : goal.returns-else-is_stop_discarded-clause-state
unfolding stop_process
returns-else-is_stop_discarded-clause-state g c = λ me e.
    let s = c.args.machine.now.state in
    let same = c.is_stop_discarded.ensures.same in
    let named = pid_looked c.args.pid s.processes me e in
    let there = ap (λ (t : State). process t c.args.pid) same ∙ e in
    stop_if s me c.args.sig false (sym (c.is_stop_discarded.ensures.value me e) ∙ c.if-is_stop_discarded.false)
    ∙ ap (λ n. outcome_of (stop_process s me c.args.sig).state (Stopped n c.args.sig ∷ [])) named
    ∙ ap (λ (t : State). outcome_of (stop_process t me c.args.sig).state (Stopped c.args.pid c.args.sig ∷ [])) (sym same)
    ∙ ap (λ (t : State). outcome_of t (Stopped c.args.pid c.args.sig ∷ [])) (sym (c.stop_process.ensures me there).state)
    ∙ ap (outcome_of c.stop_process.new.self.state) (shown_alone _ _ _ c.requires.none c.push-else-is_stop_discarded.ensures.items)

pub returns-else-is_stop_discarded-clause-no_fewer : goal.returns-else-is_stop_discarded-clause-no_fewer
returns-else-is_stop_discarded-clause-no_fewer g c =
    let me = c.requires.placed in
    let there = ap (λ (t : State). process t c.args.pid) c.is_stop_discarded.ensures.same ∙ me.found in
    le_trans c.is_stop_discarded.ensures.no_fewer (c.stop_process.ensures me.what there).costs.no_fewer
