use Rattle.std.proofs.Common.{arith, length, rules, w64, to_z, of_z, ◌≡◌, ◌∙◌, ap, sym, Some, None, option_map, inl, inr}
use Rattle.std.proofs.lemmas.Result.{err_from_is_err_and}
use Rattle.posix.specs.Common.{children_in, lookup, Process, State, process, named as named_by, in_group}
use Rattle.posix.proofs.MoveLemmas.{named_found, moves_nobody}
use Rattle.posix.proofs.ResultLemmas.{is_there, mapped_is}
use Rattle.proctable.specs.declared.snapshot.Snapshot.{Snapshot}
use Rattle.proctable.specs.Records.{snapshot_of}
use Rattle.jobs.proofs.RunLemmas.{run_as}
use Rattle.life.specs.declared.caller.Caller.{Caller}
use Rattle.life.specs.Machines.{state_of, with_processes}
use Rattle.life.proofs.FunnelLemmas.{stays_so}
use Rattle.life.proofs.MoveLemmas.{is_moving}
use Rattle.life.proofs.ViewLemmas.{state_is}
use Rattle.life.proofs.machine.Machine.move_group.Goals as goal

pub unreachable-requires : goal.unreachable-requires
unreachable-requires g c =
    let me = c.requires.there in
    moves_nobody me.what _ _ c.in_ok-group.group (sym (c.group_to_join.ensures.value me.what None (ap (λ (d : Caller). d.pid) (c.requires.caller me.what me.found)) (ap (λ (d : Caller). d.session) (c.requires.caller me.what me.found)) c.in_default.is) ∙ c.in_ok-group.was)

pub change_seen-requires : goal.change_seen-requires
unfolding in_group
change_seen-requires g c =
    let m = c.self.inside in
    let t = state_of m.world c.group_to_join.new.self.processes m.consoles.items m.pids m.order m.births m.ticks m.dropped m.halted in
    let me = c.requires.there in
    let same = state_is c.self.view_is ∙ c.named-target.ensures.looks.same.state in
    let it = is_moving _ _ same c.self.invariant.sound.regular c.args.me.now.pid me.what _ _ c.in_ok-group.group c.in-Some.it _ _ me.found (c.named-target.ensures.value me.what me.found) (λ r named found target.
    let mine = c.requires.caller r (ap (λ (x : State). process x c.args.me.now.pid) (sym same) ∙ found) in
    c.group_to_join.ensures.value r named (ap (λ (d : Caller). d.pid) mine) (ap (λ (d : Caller). d.session) mine) target) c.in_ok-group.was c.in-Some.is in
    record {
      there = is_there _ it.what (ap (lookup c.in-Some.it.pid) c.group_to_join.ensures.looks.processes ∙ it.found);
      callable = search rules;
      grouped = λ b d r here k. inr (rw c.group_to_join.ensures.looks.processes (let is : d.group ≡ c.in_ok-group.group = search rules in rw is it.joins));
      session = λ b d r here k. inl (search rules);
      regular = stays_so c.in-Some.it.pid (in_group c.in_ok-group.group) t (λ i. rw c.group_to_join.ensures.looks.processes it.regular) (λ b d r k q. search rules);
    }

pub returns-in_err-group-clause-value : goal.returns-in_err-group-clause-value
returns-in_err-group-clause-value g c = λ me found.
    let same = state_is c.self.view_is ∙ c.named-target.ensures.looks.same.state in
    let value = c.group_to_join.ensures.value me (named_by me (to_z w64 (of_z w64 c.args.me.now.r1)) c.args.self.now.state.processes) (ap (λ (d : Caller). d.pid) (c.requires.caller me found)) (ap (λ (d : Caller). d.session) (c.requires.caller me found)) (c.named-target.ensures.value me found) in
    let err = err_from_is_err_and c.from_residual.result c.from_residual.ensures.1 in
    search rules

pub returns : goal.returns
unfolding in_group
returns g c =
    let m = c.self.inside in
    let s = c.args.self.now.state in
    let p = c.args.me.now.pid in
    let t = state_of m.world c.group_to_join.new.self.processes m.consoles.items m.pids m.order m.births m.ticks m.dropped m.halted in
    let same = state_is c.self.view_is ∙ c.named-target.ensures.looks.same.state in
    let before = ap (with_processes t) c.group_to_join.ensures.looks.processes ∙ same in
    let word : to_z w64 (of_z w64 c.args.me.now.r1) ≡ c.args.me.now.r1 = search rules in
    let who = λ (me r : Process) (found : process s p ≡ Some me) (named : named_by me c.args.me.now.r1 s.processes ≡ Some r).
    mapped_is (named_by me c.args.me.now.r1 s.processes) snapshot_of r c.in-Some.it (sym c.in-Some.is ∙ c.named-target.ensures.value me found ∙ ap (λ z. option_map snapshot_of (named_by me z s.processes)) word) named in
    record {
      value = λ me found.
          let value = c.group_to_join.ensures.value me (named_by me (to_z w64 (of_z w64 c.args.me.now.r1)) s.processes) (ap (λ (d : Caller). d.pid) (c.requires.caller me found)) (ap (λ (d : Caller). d.session) (c.requires.caller me found)) (c.named-target.ensures.value me found) in
          search rules;
      err = search rules;
      ok = λ me r found named.
          let is = run_as (in_group c.in_ok-group.group) c.change_seen.ensures.run c.change_seen.ensures.costs.regular.rising (λ b d r k q. search rules) in
          let it = ap (λ (f : Snapshot). f.pid) (who me r found named) in
          search rules;
      to_recheck = λ me r found named.
          let it = ap (λ (f : Snapshot). f.pid) (who me r found named) in
          let here = ap (λ (x : State). lookup c.in-Some.it.pid x.processes) before ∙ ap (λ n. lookup n s.processes) it ∙ named_found p s.processes me c.args.me.now.r1 r found named in
          let put = c.change_seen.ensures.to_recheck r here in
          search rules;
      costs = λ me r found named.
          let kids = ap (λ (x : State). length (children_in c.in-Some.it.pid x.processes)) before ∙ ap (λ (f : Snapshot). length (children_in f.pid s.processes)) (who me r found named) in
          search (rules, arith);
      refused = search rules;
    }
