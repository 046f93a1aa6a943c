use Rattle.std.proofs.Common.{◌≡◌, ◌∙◌, ap, sym, subst}
use Rattle.std.specs.Option.{IsSome, IfSome}
use Rattle.posix.specs.Common.{Console, console_of, State, process}
use Rattle.life.specs.declared.caller.Caller.{Caller}
use Rattle.posix.proofs.ResultLemmas.{back, there}
use Rattle.calls.proofs.TerminalCallLemmas.{acquirable}
use Rattle.calls.proofs.terminals.acquire.Goals as goal

pub acquire_console-requires-clause-free : goal.acquire_console-requires-clause-free
acquire_console-requires-clause-free g c =
    let s = c.args.machine.now.state in
    let it = there (process s c.args.me.now.pid) c.requires.there in
    let console = back _ _ c.args.session c.requires.console_index in
    let caller = c.requires.caller it.what it.found in
    let may = sym (c.may_acquire.ensures it.what console.what caller console.is) ∙ c.if-not-may_acquire.false in
    subst (λ o. IfSome o (λ (d : Console). d.session ≡ 0)) (sym console.found) (acquirable s it.what console.what may).1

pub acquire_console-requires-clause-none : goal.acquire_console-requires-clause-none
acquire_console-requires-clause-none g c =
    let s = c.args.machine.now.state in
    let it = there (process s c.args.me.now.pid) c.requires.there in
    let console = back _ _ c.args.session c.requires.console_index in
    let caller = c.requires.caller it.what it.found in
    let may = sym (c.may_acquire.ensures it.what console.what caller console.is) ∙ c.if-not-may_acquire.false in
    ap (λ (k : Caller). console_of k.session s.consoles) caller ∙ (acquirable s it.what console.what may).0

pub finish_with-requires-clause-there : goal.finish_with-requires-clause-there
finish_with-requires-clause-there g c =
    let console = back _ _ c.args.session c.requires.console_index in
    subst (λ (t : State). IsSome (process t c.args.me.now.pid)) (sym (c.acquire_console.ensures.state console.what console.found)) c.requires.there
