use Rattle.std.proofs.Common.{◌≡◌, ◌||◌, subst, ap, sym, ◌∙◌, arith, refl, true, Some, slice_get, ⊎_elim}
use Rattle.std.proofs.lemmas.Bool.{or_cases, or_left, or_right}
use Rattle.std.proofs.lemmas.Option.{get_or_from_slice_get, same_Some, slice_get_within}
use Rattle.posix.specs.Common.{HUP, Process, Console, console_of, released, State, is_in, process, IsRegular, members_in, pids, signalled_group}
use Rattle.posix.proofs.ResultLemmas.{mapped_is}
use Rattle.proctable.specs.Records.{snapshot_of}
use Rattle.life.specs.Consoles.{hangs_up}
use Rattle.pidset.specs.Indexes.{is_pair_in}
use Rattle.pidset.specs.Lists.{ListsView}
use Rattle.life.proofs.TakingLemmas.{asked_members}
use Rattle.life.proofs.ConsoleLemmas.{put, leads_own, others_stay, unled_stays, leader_hangs_up, slots_hung_up}
use Rattle.life.proofs.ViewLemmas.{state_is, looks_cost, costs_then, cost_more}
use Rattle.life.proofs.machine.Machine.hang_up.Goals as goal

pub returns-in_default-clause-state : goal.returns-in_default-clause-state
returns-in_default-clause-state g c = λ me found. unled_stays c.args.self.now.state c.args.pid me found c.in_default.ensures

pub returns-in_default-clause-costs : goal.returns-in_default-clause-costs
returns-in_default-clause-costs g c = λ me found. record { visits = omega arith; no_fewer = omega arith; groups_at_risk = refl; regular = subst IsRegular (state_is c.self.view_is) c.self.invariant.sound.regular }

pub returns-then-not-hangs_up-clause-state : goal.returns-then-not-hangs_up-clause-state
returns-then-not-hangs_up-clause-state g c = λ me found.
    c.snapshot.ensures.looks.same.state ∙ others_stay c.args.self.now.state me (ap hangs_up (sym (mapped_is _ snapshot_of me c.in-Some-snapshot.snapshot c.in-Some-snapshot.ensures.value found)) ∙ sym c.hangs_up.ensures ∙ c.if-not-hangs_up.true)

pub index-requires : goal.index-requires
index-requires g c =
    let it = c.in-Some.ensures in
    let within = slice_get_within _ c.in-Some.console_index it.0 (ap (λ (s : State). slice_get s.consoles c.in-Some.console_index) (state_is c.self-2.view_is ∙ c.snapshot.ensures.looks.same.state) ∙ it.1) in
    omega (arith, within)

pub release-requires : goal.release-requires
release-requires g c = λ d at.
    let it = c.in-Some.ensures in
    ap (λ (x : Console). x.session) (same_Some _ _ (sym at ∙ ap (λ (s : State). slice_get s.consoles c.in-Some.console_index) c.snapshot.ensures.looks.same.state ∙ it.1)) ∙ it.3

pub returns : goal.returns
returns g c =
    let old = c.args.self.now in
    let now = old.state in
    let console_index = c.in-Some.console_index in
    let it = c.in-Some.ensures in
    let cs = c.self-2.inside.consoles.items in
    let looks = c.snapshot.ensures.looks in
    let leads : (me : Process) → process now c.args.pid ≡ Some me → hangs_up (snapshot_of me) ≡ true =
    λ me found. ap hangs_up (sym (mapped_is _ snapshot_of me c.in-Some-snapshot.snapshot c.in-Some-snapshot.ensures.value found)) ∙ sym c.hangs_up.ensures ∙ c.if-not-hangs_up.false in
    let at = ap (λ (s : State). slice_get s.consoles console_index) looks.same.state ∙ it.1 in
    let inside : slice_get cs console_index ≡ Some it.0 = ap (λ (s : State). slice_get s.consoles console_index) (state_is c.self-2.view_is) ∙ at in
    let foreground = c.foreground-foreground.ensures.is ∙ ap (λ (x : Console). x.foreground) (c.index.ensures ∙ get_or_from_slice_get cs console_index it.0 _ inside) in
    let gone : c.release.new.self.state ≡ put now console_index (released it.0) = c.release.ensures.state it.0 at ∙ ap (λ (s : State). put s console_index (released it.0)) looks.same.state in
    let processes = ap (λ (s : State). s.processes) gone in
    record {
      state = λ me found.
          c.signal_group.ensures.state ∙ ap (λ (s : State). record s { processes = signalled_group HUP c.foreground-foreground.result s.processes }) gone
          ∙ ap (λ n. record (put now console_index (released it.0)) { processes = signalled_group HUP n now.processes }) foreground
          ∙ leader_hangs_up now console_index c.args.pid me it.0 looks.regular found (leads me found) it.1 (it.3 ∙ sym (leads_own now c.args.pid me found (leads me found)));
      costs = λ me found.
          let theirs = ap (λ n. console_of n now.consoles) (leads_own now c.args.pid me found (leads me found)) ∙ it.2 in
          let all = slots_hung_up old me console_index c.foreground-foreground.result it.0 _ (leads me found) processes it.1 theirs foreground in
          cost_more (costs_then (costs_then (looks_cost looks) c.release.ensures.costs) c.signal_group.ensures.costs) (omega (arith, all));
      those = λ me p d found theirs on.
          let own = leads_own now c.args.pid me found (leads me found) in
          let one : it.0 ≡ d = same_Some _ _ (sym it.2 ∙ ap (λ n. console_of n now.consoles) (sym own) ∙ theirs) in
          ⊎_elim
          (λ a. or_left _ _ (sym (ap (λ ns. is_in p ns || is_pair_in c.args.pid p c.snapshot.new.self.readers.pairs) looks.same.to_recheck ∙ ap (λ (l : ListsView). is_in p old.to_recheck || is_pair_in c.args.pid p l.pairs) looks.same.readers ∙ ap (λ n. is_in p old.to_recheck || is_pair_in n p old.readers.pairs) (sym own)) ∙ c.release.ensures.those p a))
          (λ b. or_right _ _ (sym (ap (λ n. is_in p (pids (members_in n c.release.new.self.state.processes))) (foreground ∙ ap (λ (x : Console). x.foreground) one) ∙ ap (λ rs. is_in p (pids (members_in d.foreground rs))) processes) ∙ b))
          (or_cases _ _ (asked_members HUP c.foreground-foreground.result p c.release.new.self.state.order c.release.new.self.state.processes c.release.new.self.to_recheck refl (ap (is_in p) (sym c.signal_group.ensures.to_recheck) ∙ on)));
    }
