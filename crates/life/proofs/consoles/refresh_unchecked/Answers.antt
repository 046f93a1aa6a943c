use Rattle.std.proofs.Common.{◌≡◌, ◌∙◌, ap, arith, sym, subst, refl, slice_set, true}
use Rattle.std.proofs.lemmas.Bool.{eqb-false, not-true}
use Rattle.std.proofs.lemmas.Option.{get_or_from_slice_get}
use Rattle.posix.specs.Common.{Console, refreshed}
use Rattle.life.specs.Foregrounds.{AreFreshBut, is_unchecked}
use Rattle.life.proofs.ForegroundLemmas.{counts_all, counts_own, refreshed_fresh, refreshed_none, refreshed_one}
use Rattle.life.proofs.consoles.refresh_unchecked.Goals.{in_default-via-in-In+else-ne, in_default-via-in_default}
use Rattle.life.proofs.consoles.refresh_unchecked.Goals as goal

pub returns-in-Nothing-clause-consoles : goal.returns-in-Nothing-clause-consoles
returns-in-Nothing-clause-consoles g c = refreshed_fresh _ _ (subst (λ u. AreFreshBut u c.args.table.now.processes c.args.consoles.now.items) c.in-Nothing.is c.requires.fresh)

pub returns-in-Some-clause-consoles : goal.returns-in-Some-clause-consoles
returns-in-Some-clause-consoles g c =
    let rs = c.args.table.now.processes in
    let cs = c.args.consoles.now.items in
    let it = c.in-Some.ensures cs c.requires.terminals in
    let fresh = subst (λ u. AreFreshBut u rs cs) c.in-In.is c.requires.fresh in
    let some = eqb-false c.in-In.session 0 (not-true _ (sym c.ne.ensures ∙ c.if-ne.true)) in
    ap (slice_set cs c.in-Some.console_index) (c.refresh.ensures.console ∙ ap (refreshed rs) (c.index_mut.ensures.value ∙ get_or_from_slice_get cs c.in-Some.console_index it.0 _ it.1)) ∙ refreshed_one c.in-In.session _ it.0 rs cs some c.requires.apart fresh it.1 it.3

pub returns-in-Some-clause-visits : goal.returns-in-Some-clause-visits
returns-in-Some-clause-visits g c =
    let cs = c.args.consoles.now.items in
    let it = c.in-Some.ensures cs c.requires.terminals in
    rw c.in-In.is (let one = counts_own c.in-In.session c.in-Some.console_index it.0 cs it.1 it.3 in omega (arith, one, c.refresh.ensures.visits))

pub returns-in_default-index_in-clause-consoles : goal.returns-in_default-index_in-clause-consoles
returns-in_default-index_in-clause-consoles g c =
    let rs = c.args.table.now.processes in
    let cs = c.args.consoles.now.items in
    refreshed_none c.in-In.session rs cs (eqb-false c.in-In.session 0 (not-true _ (sym c.ne.ensures ∙ c.if-ne.true))) (subst (λ u. AreFreshBut u rs cs) c.in-In.is c.requires.fresh) (c.in_default-index_in.ensures cs c.requires.terminals)

pub returns-in_default-clause-visits : goal.returns-in_default-clause-visits
returns-in_default-clause-visits g c =
    let all : (d : Console) → is_unchecked c.args.unchecked.now d ≡ true = λ d. elim c.in_default.branch [
      | in_default-via-in-In+else-ne w ↦ rw w.in-In.is (grind (arith, w.ne.ensures, w.if-ne.false))
      | in_default-via-in_default w ↦ rw w.in_default.is refl
    ] in
    let many = counts_all c.args.unchecked.now c.args.consoles.now.items all in
    omega (arith, many, c.refresh_all.ensures.visits)
