use Rattle.std.proofs.Common.{rules, ◌≡◌, ◌||◌, arith, ap, sym, refl, ◌∙◌, subst, cond, length, List, ℕ}
use Rattle.std.specs.List.{list_any}
use Rattle.posix.specs.Common.{with_number, above, children_in, is_child, first_pid, State, process, is_in, IsRegular, is_anchor}
use Rattle.posix.proofs.PassingLemmas.{filter_at_most}
use Rattle.pidset.specs.Numbers.{Rises}
use Rattle.posix.proofs.ResultLemmas.{there}
use Rattle.life.proofs.ChildLemmas.{child_here, first_here, first_todo, child_less, next_here}
use Rattle.life.proofs.AtRiskLemmas.{noted_again, few_noted, keeps, begin_noted, step_noted}
use Rattle.life.proofs.ViewLemmas.{state_is}
use Rattle.life.proofs.machine.Machine.note_groups_at_risk.Goals as goal

pub invariant_of-self : goal.invariant_of-self
unfolding Rises
invariant_of-self g c = noted_again c.self.invariant (subst Rises (sym c.clear.ensures.pids) tt) c.clear.ensures.room

pub note_anchor-requires : goal.note_anchor-requires
note_anchor-requires g c = let none = ap (λ (ns : List ℕ). length ns) c.clear.ensures.pids in omega (arith, none)

pub note_anchor-requires-in-Some : goal.note_anchor-requires-in-Some
unfolding children_in
note_anchor-requires-in-Some g c =
    let i = c.loop-next.invariant in
    let at = child_here i.walk c.in-Some.is in
    let less = child_less i.walk c.in-Some.is refl in
    let kids = filter_at_most (is_child c.args.pid) c.args.self.now.state.processes in
    let same = ap (λ (t : State). length t.processes) i.same in
    omega (arith, i.few, less, kids, same)

pub loop-next-init : goal.loop-next-init
loop-next-init g c =
    let s = c.args.self.now.state in
    let old = state_is c.self.view_is in
    let same : c.note_anchor.new.self.state ≡ s = c.note_anchor.ensures.notes.state ∙ old in
    let regular = subst IsRegular same c.next_child-next.ensures.regular in
    let next = c.next_child-next.ensures.value ∙ ap (λ (t : State). first_pid (above 0 (children_in c.args.pid t.processes))) same in
    let me = there _ c.requires in
    let now = c.note_anchor.ensures.groups_at_risk me.what (ap (λ (t : State). process t c.args.pid) old ∙ me.found)
    ∙ ap (λ (t : State). cond (is_anchor t.processes me.what) (with_number me.what.group c.clear.new.self.pids) c.clear.new.self.pids) old in
    let all = first_todo s regular c.args.pid _ next in
    let walk = first_here s regular c.args.pid _ next in
    let todo = λ (n : ℕ). ap (λ qs. is_in n c.note_anchor.new.self.groups_at_risk || list_any (keeps s.processes n) qs) all ∙ begin_noted s.processes regular.rising c.args.pid me.what me.found _ _ c.clear.ensures.pids now n in
    let many = ap length all in
    let few = few_noted (is_anchor s.processes me.what) me.what.group c.clear.new.self.pids in
    let none = ap (λ (ns : List ℕ). length ns) c.clear.ensures.pids in
    let count = ap (λ (ns : List ℕ). length ns) now in
    search (rules, arith)

pub loop-next-preserved : goal.loop-next-preserved
loop-next-preserved g c =
    let i = c.loop-next.invariant in
    let same = c.note_anchor-in-Some.ensures.notes.state ∙ i.same in
    let at = child_here i.walk c.in-Some.is in
    let next = c.next_child-next-in-Some.ensures.value ∙ ap (λ (t : State). first_pid (above c.in-Some.child (children_in c.args.pid t.processes))) same in
    let ns = c.loop-next.self.groups_at_risk in
    let now = c.note_anchor-in-Some.ensures.groups_at_risk at.what (ap (λ (t : State). process t c.in-Some.child) i.same ∙ at.found)
    ∙ ap (λ (t : State). cond (is_anchor t.processes at.what) (with_number at.what.group ns) ns) i.same in
    let walk = next_here i.walk c.in-Some.is next in
    let todo = λ (n : ℕ). step_noted c.args.self.now.state.processes c.args.pid c.in-Some.child _ _ at c.in-Some.is next ns _ now n ∙ i.todo n in
    let less = child_less i.walk c.in-Some.is next in
    let more = few_noted (is_anchor c.args.self.now.state.processes at.what) at.what.group ns in
    let count = ap (λ (ns : List ℕ). length ns) now in
    search (rules, arith)
