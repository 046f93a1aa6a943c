use Rattle.std.proofs.Common.{◌≡◌, ◌+◌, ◌∙◌, Some, option_and_then, ap, arith, sym, subst}
use Rattle.std.specs.Option.{IfSome}
use Rattle.std.proofs.lemmas.Option.{IfSome_then}
use Rattle.std.proofs.Math.Nat.{le_trans}
use Rattle.posix.specs.Common.{State, process, current_process}
use Rattle.posix.proofs.OrderLemmas.{first_in}
use Rattle.calls.specs.Outcomes.{IsActing, CostsWithRechecks}
use Rattle.calls.proofs.BriefLemmas.{brief_on, quiet_on}
use Rattle.kernel.specs.Counts.{slots_of_acting}
use Rattle.kernel.proofs.CountLemmas.{counts_one}
use Rattle.kernel.proofs.step.step.Goals as goal

pub act-requires-clause-acting : goal.act-requires-clause-acting
act-requires-clause-acting g c =
    let s = c.args.machine.now.state in
    let place = first_in c.in-Some.pid s.order (sym c.current.ensures ∙ c.in-Some.is) in
    subst (λ (t : State). IsActing t c.in-Some.pid) (sym c.snapshot.ensures.looks.same.state)
    (record { placed = c.snapshot.ensures.looks.regular.placed c.in-Some.pid place; place = place })

pub returns-clause-brief : goal.returns-clause-brief
returns-clause-brief g c = λ me e none checked.
    let old = c.args.machine.now in
    let looks = c.snapshot.ensures.looks in
    let mid = c.snapshot.new.self in
    let pid = c.in-Some.pid in
    let place = first_in pid old.state.order (sym c.current.ensures ∙ c.in-Some.is) in
    let here : process old.state pid ≡ Some me = ap (option_and_then (process old.state)) (sym (sym c.current.ensures ∙ c.in-Some.is)) ∙ e in
    let quiet = quiet_on pid old mid looks.same (record { none = none; checked = checked; place = place }) in
    let acts = c.act.ensures.brief me (ap (λ (t : State). process t pid) looks.same.state ∙ here) quiet in
    IfSome_then (slots_of_acting old.state me me.blocked) (subst (λ (t : State). IfSome (slots_of_acting t me me.blocked) (λ n. CostsWithRechecks n mid c.act.new.machine)) looks.same.state acts)
    (λ n h. brief_on n 1 (n + 1) old mid c.act.new.machine looks.same looks.visits (omega arith) h)

pub returns-clause-counts : goal.returns-clause-counts
returns-clause-counts g c = counts_one (current_process c.args.machine.now.state) (le_trans (rw c.in-Some-snapshot.is at c.snapshot.ensures.counts) c.act.ensures.no_fewer)
