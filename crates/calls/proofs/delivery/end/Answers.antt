use Rattle.std.proofs.Common.{◌≡◌, ℕ, ◌+◌, ◌≤◌, ◌∙◌, ap, sym, refl, subst, arith, cond, ◌==◌, ◌++◌, ◌∷◌, [], List}
use Rattle.std.proofs.Math.Nat.{le_trans}
use Rattle.posix.specs.declared.entry.Entry.{Entry}
use Rattle.posix.specs.declared.entry.Entry.TheVariants.{Ended, Halted}
use Rattle.posix.specs.Common.{Process, State, process, hang_up, heir_in, CanInherit}
use Rattle.posix.proofs.HeirLemmas.{heir_inherits}
use Rattle.posix.proofs.TableLemmas.{pid_looked}
use Rattle.life.specs.Ends.{slots_of_heir, slots_of_ending}
use Rattle.calls.proofs.CallLemmas.{end_entries}
use Rattle.posix.proofs.ResultLemmas.{there}
use Rattle.calls.proofs.RemainLemmas.{end_hung, some_hung}
use Rattle.calls.proofs.delivery.end.Goals as goal

pub end-requires-clause-there : goal.end-requires-clause-there
end-requires-clause-there g c =
    let s = c.args.machine.now.state in
    let me = there (process s c.args.pid) c.requires.there in
    some_hung s c.heir-heir.new.self.state me.what c.args.pid me.found (c.heir-heir.ensures.same.state ∙ c.hang_up.ensures.state me.what me.found)

pub end-requires-clause-heir : goal.end-requires-clause-heir
end-requires-clause-heir g c = λ other. subst (CanInherit c.heir-heir.new.self.state.processes c.args.pid) (sym (c.heir-heir.ensures.heir ∙ ap (λ (t : State). heir_in t.processes c.args.pid) (sym c.heir-heir.ensures.same.state)))
    (heir_inherits c.heir-heir.new.self.state.processes c.args.pid)

pub returns-clause-state : goal.returns-clause-state
returns-clause-state g c = λ me e.
    end_hung c.args.machine.now.state c.heir-heir.new.self.state _ me c.args.pid c.heir-heir.result c.args.status e (c.heir-heir.ensures.same.state ∙ c.hang_up.ensures.state me e)
    (c.heir-heir.ensures.heir ∙ ap (λ (t : State). heir_in t.processes c.args.pid) (sym c.heir-heir.ensures.same.state)) c.end.ensures.state

pub returns-clause-entries : goal.returns-clause-entries
returns-clause-entries g c = λ me e.
    let s = c.args.machine.now.state in
    let status = c.args.status in
    let named = pid_looked c.args.pid s.processes me e in
    let shown = ap (λ n. cond (n == 1) (Ended n status ∷ Halted ∷ []) (Ended n status ∷ [])) (sym named) ∙ sym (end_entries s me status (me.pid == 1) refl) in
    c.show_end.ensures ∙ ap (λ (l : List Entry). c.args.entries.now.items ++ l) shown

-- what the three calls read, if the terminal was hung up first and then the new parent was found
read : (hung found : State) (me : Process) (p heir status before mid walked after hangup : ℕ) → me.pid ≡ p → found ≡ hung → heir ≡ heir_in hung.processes p → mid ≤ before + (1 + hangup) → walked ≤ mid + slots_of_heir hung.processes p → after ≤ walked + slots_of_ending found p heir status
    → after ≤ before + (1 + hangup + slots_of_heir hung.processes me.pid + slots_of_ending hung me.pid (heir_in hung.processes me.pid) status)
read hung found me p heir status before mid walked after hangup named same is a b c =
    let walk = ap (slots_of_heir hung.processes) named in
    let ending = ap (λ (t : State). slots_of_ending t p heir status) same ∙ ap (λ n. slots_of_ending hung p n status) is ∙ ap (λ n. slots_of_ending hung n (heir_in hung.processes n) status) (sym named) in
    omega (arith, a, b, c, walk, ending)

pub returns-clause-visits : goal.returns-clause-visits
returns-clause-visits g c = λ me e.
    let s = c.args.machine.now.state in
    let p = c.args.pid in
    let hung = c.hang_up.ensures.state me e in
    let walk = subst (λ (t : State). c.heir-heir.new.self.visits ≤ c.hang_up.new.self.visits + slots_of_heir t.processes p) hung c.heir-heir.ensures.visits in
    read (hang_up s me) c.heir-heir.new.self.state me p c.heir-heir.result c.args.status c.args.machine.now.visits c.hang_up.new.self.visits c.heir-heir.new.self.visits c.end.new.self.visits _ (pid_looked p s.processes me e) (c.heir-heir.ensures.same.state ∙ hung) (c.heir-heir.ensures.heir ∙ ap (λ (t : State). heir_in t.processes p) hung) (c.hang_up.ensures.costs me e).visits walk (omega (arith, c.end.ensures.visits))

pub returns-clause-no_fewer : goal.returns-clause-no_fewer
returns-clause-no_fewer g c =
    let me = there _ c.requires.there in
    le_trans (c.hang_up.ensures.costs me.what me.found).no_fewer (le_trans c.heir-heir.ensures.no_fewer c.end.ensures.no_fewer)
