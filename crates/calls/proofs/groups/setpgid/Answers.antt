use Rattle.std.proofs.Common.{◌≡◌, ◌∙◌, ap, sym, subst, refl, true, pos, Option}
use Rattle.std.proofs.Math.Nat.{le_trans}
use Rattle.std.specs.Option.{IfSome, IsSome}
use Rattle.posix.specs.declared.call.Call.TheVariants.{Setpgid}
use Rattle.posix.specs.Common.{Process, argument, State, process, change, finish_with, named, move_to, in_group, attempt}
use Rattle.posix.proofs.TableLemmas.{pid_looked}
use Rattle.life.specs.declared.caller.Caller.{Caller}
use Rattle.life.specs.Callers.{caller_of}
use Rattle.calls.proofs.CallLemmas.{gives_is}
use Rattle.posix.proofs.OrderLemmas.{placed_some}
use Rattle.calls.proofs.GroupCallLemmas.{who_moves, there_moved, setpgid_moves}
use Rattle.calls.proofs.groups.setpgid.Goals as goal

pub finish_with-requires-clause-there : goal.finish_with-requires-clause-there
finish_with-requires-clause-there g c =
    let me = c.requires.placed.what in
    let t = c.caller-me.new.self.state in
    let found = ap (λ (x : State). process x c.caller-me.result.pid) c.caller-me.ensures.finds.looks.same.state ∙ ap (process c.args.machine.now.state) c.caller-me.ensures.pid ∙ c.requires.placed.found in
    let who = who_moves me _ _ _ _ (sym (c.move_group.ensures.value me found) ∙ c.in-Ok.is) in
    let state = c.in-Ok.ensures.ok me who.what found who.found in
    subst (λ (x : State). IsSome (process x c.args.pid)) (sym state)
    (there_moved t c.args.pid who.what.pid c.in-Ok.field-0 (subst (λ (x : State). IsSome (process x c.args.pid)) (sym c.caller-me.ensures.finds.looks.same.state) (placed_some _ c.args.pid c.requires.placed)))

pub returns-in-Ok-clause-attempts : goal.returns-in-Ok-clause-attempts
unfolding attempt
returns-in-Ok-clause-attempts g c = λ me e.
    let s = c.args.machine.now.state in
    let p = c.args.pid in
    let caller = c.caller-me.result in
    let same = c.caller-me.ensures.finds.looks.same.state in
    let is = subst (λ (o : Option Process). IfSome o (λ r. caller ≡ caller_of r)) e c.caller-me.ensures.finds.value in
    let found = ap (λ (x : State). process x caller.pid) same ∙ ap (process s) c.caller-me.ensures.pid ∙ e in
    let moves = sym (c.move_group.ensures.value me found) ∙ c.in-Ok.is in
    let who = who_moves me _ _ _ _ moves in
    let state = c.in-Ok.ensures.ok me who.what found who.found in
    let here = ap (λ (x : State). named me (argument me 1) x.processes) (sym same) ∙ ap (λ (k : Caller). named me k.r1 c.caller-me.new.self.state.processes) (sym is) ∙ who.found in
    let can = ap (λ (x : State). move_to me (named me (argument me 1) x.processes) (argument me 2) x.processes) (sym same)
    ∙ ap (λ (k : Caller). move_to me (named me k.r1 c.caller-me.new.self.state.processes) k.r2 c.caller-me.new.self.state.processes) (sym is) ∙ moves in (
      true,
      gives_is s (change s who.what.pid (in_group c.in-Ok.field-0)) c.move_group.new.self.state _ _ p Setpgid (pos 0) (pos 0) _ _ _
          (setpgid_moves s me who.what c.in-Ok.field-0 here can ∙ ap (λ q. finish_with (change s who.what.pid (in_group c.in-Ok.field-0)) q Setpgid (pos 0)) (pid_looked p s.processes me e))
          c.finish_with.ensures.done c.finish_with.ensures.state (state ∙ ap (λ (x : State). change x who.what.pid (in_group c.in-Ok.field-0)) same) c.finish_with.ensures.shown refl,
    )

pub returns-in-Ok-clause-no_fewer : goal.returns-in-Ok-clause-no_fewer
returns-in-Ok-clause-no_fewer g c =
    let me = c.requires.placed in
    let looks = c.caller-me.ensures.finds.looks in
    let found = ap (λ (x : State). process x c.caller-me.result.pid) looks.same.state ∙ ap (process c.args.machine.now.state) c.caller-me.ensures.pid ∙ me.found in
    let who = who_moves me.what _ _ _ _ (sym (c.move_group.ensures.value me.what found) ∙ c.in-Ok.is) in
    le_trans looks.no_fewer (le_trans (c.in-Ok.ensures.costs me.what who.what found who.found).no_fewer c.finish_with.ensures.no_fewer)
