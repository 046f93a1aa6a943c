use Rattle.std.proofs.Common.{◌≡◌, ◌∙◌, ap, sym, refl, rules, to_z, of_z, w64, true, false, pos, ℕ, Some}
use Rattle.std.proofs.lemmas.Option.{cond_some}
use Rattle.posix.specs.declared.call.Call.TheVariants.{Tcsetpgrp}
use Rattle.posix.specs.declared.errno.Errno.TheVariants.{EPERM}
use Rattle.posix.specs.Common.{with_foreground, argument, State, refusal, finish_with, refused, is_group_of, change_console}
use Rattle.life.specs.declared.caller.Caller.{Caller}
use Rattle.calls.specs.Terminals.{natural_in}
use Rattle.calls.proofs.CallLemmas.{gives_is}
use Rattle.calls.proofs.TerminalCallLemmas.{in_session, names_group, none_found}
use Rattle.calls.proofs.terminals.put_foreground.Goals as goal

pub returns-in_default-group_of-clause-comes : goal.returns-in_default-group_of-clause-comes
returns-in_default-group_of-clause-comes g c = λ r e.
    let s = c.args.machine.now.state in
    let me = c.args.me.now in
    let group = c.in-Some.group in
    let caller = c.requires.caller r e in
    let kept : to_z w64 (of_z w64 me.r1) ≡ me.r1 = search rules in
    let some : natural_in (argument r 1) ≡ Some group = ap natural_in (sym (kept ∙ ap (λ (k : Caller). k.r1) caller)) ∙ sym c.natural_in.ensures ∙ c.in-Some.is in
    let none : is_group_of r.session group s.processes ≡ false =
    ap (λ n. is_group_of n group s.processes) (sym (ap (λ (k : Caller). k.session) caller)) ∙ none_found _ group (sym c.group_of.ensures.value ∙ c.in_default-group_of.is) in
    let is = names_group s r (argument r 1) group false some none ∙ ap (λ (q : ℕ). refused s q Tcsetpgrp EPERM) (sym (ap (λ (k : Caller). k.pid) caller)) in
    let last = c.refuse-in_default-group_of.ensures in
    gives_is s s _ _ _ me.pid Tcsetpgrp (refusal EPERM) (refusal EPERM) _ _ _ is last.done last.state c.group_of.ensures.looks.same.state last.shown refl

pub set_foreground-requires : goal.set_foreground-requires
set_foreground-requires g c = in_session c.args.machine.now.state c.args.me.now.pid c.args.me.now c.requires.regular c.requires.there c.requires.caller

pub returns-clause-comes : goal.returns-clause-comes
returns-clause-comes g c = λ r e.
    let s = c.args.machine.now.state in
    let me = c.args.me.now in
    let group = c.in-Some.group in
    let caller = c.requires.caller r e in
    let session = ap (λ (k : Caller). k.session) caller in
    let kept : to_z w64 (of_z w64 me.r1) ≡ me.r1 = search rules in
    let some : natural_in (argument r 1) ≡ Some group = ap natural_in (sym (kept ∙ ap (λ (k : Caller). k.r1) caller)) ∙ sym c.natural_in.ensures ∙ c.in-Some.is in
    let found = cond_some (is_group_of me.session group s.processes) group c.in-Some-group_of.group (sym c.group_of.ensures.value ∙ c.in-Some-group_of.is) in
    let member : is_group_of r.session group s.processes ≡ true = ap (λ n. is_group_of n group s.processes) (sym session) ∙ found.0 in
    let now = change_console s r.session (with_foreground group) in
    let is = names_group s r (argument r 1) group true some member ∙ ap (λ (q : ℕ). finish_with now q Tcsetpgrp (pos 0)) (sym (ap (λ (k : Caller). k.pid) caller)) in
    let state = c.set_foreground.ensures.state
    ∙ ap (λ (t : State). change_console t me.session (with_foreground c.in-Some-group_of.group)) c.group_of.ensures.looks.same.state
    ∙ ap (λ (n : ℕ). change_console s n (with_foreground c.in-Some-group_of.group)) session
    ∙ ap (λ (n : ℕ). change_console s r.session (with_foreground n)) (sym found.1) in
    gives_is s now _ _ _ me.pid Tcsetpgrp (pos 0) (pos 0) _ _ _ is c.finish_with.ensures.done c.finish_with.ensures.state state c.finish_with.ensures.shown refl
