use Rattle.std.proofs.Common.{◌≡◌, ◌∙◌, ℕ, ap, sym, refl, rules, to_z, of_z, w64, true, Some, None, slice_get}
use Rattle.posix.specs.declared.call.Call.TheVariants.{Setctty}
use Rattle.posix.specs.declared.errno.Errno.TheVariants.{ENOENT}
use Rattle.posix.specs.Common.{argument, State, process, refusal, refused, attempt, console_named, setctty_of, setctty_at, setctty}
use Rattle.posix.proofs.TableLemmas.{pid_looked}
use Rattle.life.specs.declared.caller.Caller.{Caller}
use Rattle.calls.proofs.CallLemmas.{caller_is, gives_is}
use Rattle.posix.proofs.ResultLemmas.{none_mapped}
use Rattle.calls.proofs.terminals.setctty.Goals as goal

pub returns-in_default-session_at-clause-attempts : goal.returns-in_default-session_at-clause-attempts
unfolding attempt setctty
returns-in_default-session_at-clause-attempts g c = λ me e.
    let s = c.args.machine.now.state in
    let p = c.args.pid in
    let console_index = c.in-Some.console_index in
    let cr = c.caller-me.result in
    let caller = caller_is (process s p) me cr c.caller-me.ensures.finds.value e in
    let kept : to_z w64 (of_z w64 cr.r1) ≡ cr.r1 = search rules in
    let some : console_named (argument me 1) ≡ Some console_index = ap console_named (sym (kept ∙ ap (λ (k : Caller). k.r1) caller)) ∙ sym c.console_named.ensures ∙ c.in-Some.is in
    let none : slice_get s.consoles console_index ≡ None =
    ap (λ (t : State). slice_get t.consoles console_index) (sym c.caller-me.ensures.finds.looks.same.state) ∙ none_mapped _ _ (sym c.in_default-session_at.is ∙ c.session_at.ensures.value) in
    let is = ap (setctty_at s me) some ∙ ap (setctty_of s me console_index) none ∙ ap (λ (q : ℕ). refused s q Setctty ENOENT) (pid_looked p s.processes me e) in
    let last = c.refuse-in_default-session_at.ensures in
    (true, gives_is s s _ _ _ p Setctty (refusal ENOENT) (refusal ENOENT) _ _ _ is last.done last.state c.caller-me.ensures.finds.looks.same.state last.shown refl)
