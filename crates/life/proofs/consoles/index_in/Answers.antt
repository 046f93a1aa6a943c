use Rattle.std.proofs.Common.{arith, refl, sym, subst, Some, None, ◌-◌, ◌∙◌, ℕ}
use Rattle.pidset.specs.Indexes.{IsNextPair}
use Rattle.life.specs.Consoles.{IsTerminalIndex}
use Rattle.life.proofs.TerminalLemmas.{terminal_found, terminal_missing}
use Rattle.life.proofs.consoles.index_in.Goals as goal

pub overflow_sub-result : goal.overflow_sub-result
overflow_sub-result c = let low = (c.in-Some.ensures.next.there c.in-Some.number refl).0 in omega (arith, low, c.number-in-Some.ensures.value)

pub returns-in-Some : goal.returns-in-Some
returns-in-Some c = λ cs h.
    let own = c.from.ensures ∙ c.number.ensures.value in
    let it = terminal_found cs _ c.args.session _ h (subst (λ k. IsNextPair k 0 c.args.terminals.now.pairs (Some c.in-Some.number)) own c.in-Some.ensures.next) in
    subst (λ (n : ℕ). IsTerminalIndex c.args.session cs (Some (n - 1))) (sym c.number-in-Some.ensures.value) it.1

pub returns-in-None : goal.returns-in-None
returns-in-None c = λ cs h.
    let own = c.from.ensures ∙ c.number.ensures.value in
    terminal_missing cs _ c.args.session h (subst (λ k. IsNextPair k 0 c.args.terminals.now.pairs None) own c.in-None.ensures.next)
