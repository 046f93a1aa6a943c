use Rattle.std.proofs.Common.{◌≡◌, ◌∙◌, ℕ, ap, sym, refl, subst, arith, length, List, Some, None}
use Rattle.std.specs.Option.{IsSome}
use Rattle.posix.specs.declared.call.Call.TheVariants.{Read}
use Rattle.posix.specs.declared.process.Blocked.TheVariants as blocked
use Rattle.posix.specs.Common.{Console, console_of, line_taken, State, process, change, change_console, finish_moved, with_bytes}
use Rattle.posix.proofs.ReportLemmas.{some_changed}
use Rattle.life.specs.declared.caller.Caller.{Caller}
use Rattle.calls.specs.declared.outcome.Attempt.TheVariants as came
use Rattle.calls.specs.Outcomes.{Comes}
use Rattle.calls.specs.Terminals.{first_bytes}
use Rattle.posix.proofs.ResultLemmas.{there}
use Rattle.calls.proofs.TerminalCallLemmas.{in_session, moved_since, none_first, few_first, none_taken, read_none, read_some, after_read, pid_with_bytes}
use Rattle.calls.proofs.transfers.read_line.Goals as goal

pub take_bytes-requires-clause-session : goal.take_bytes-requires-clause-session
take_bytes-requires-clause-session g c = in_session c.args.machine.now.state c.args.me.now.pid c.args.me.now c.requires.regular c.requires.there c.requires.caller

pub returns-in_default-clause-comes : goal.returns-in_default-clause-comes
returns-in_default-clause-comes g c = λ r k e f.
    let s = c.args.machine.now.state in
    let me = c.args.me.now in
    let count = c.args.span.count in
    let own : console_of me.session s.consoles ≡ Some k = ap (λ (q : Caller). console_of q.session s.consoles) (c.requires.caller r e) ∙ f in
    let none : first_bytes count k.lines ≡ None = sym (c.take_bytes.ensures.bytes k own) ∙ c.in_default.is in
    let in_one = in_session s me.pid me c.requires.regular c.requires.there c.requires.caller in
    let stays = none_taken s.world.consoles count me.session s.consoles k c.requires.regular.consoles in_one own (none_first count k.lines none) in
    let state = c.take_bytes.ensures.state ∙ ap (λ (cs : List Console). record s { consoles = cs }) stays in
    subst (λ a. Comes s a (came.Block blocked.Read) c.args.entries.now.items c.args.entries.now.items c.take_bytes.new.machine.state) (sym (read_none s r c.args.span k.lines none)) (refl, refl, state)

pub store-requires-clause-within : goal.store-requires-clause-within
store-requires-clause-within g c =
    let it = there _ c.requires.terminal in
    let few = few_first c.args.span.count it.what.lines c.in-Some.bytes (sym (c.take_bytes.ensures.bytes it.what it.found) ∙ c.in-Some.is) in
    let same = ap (λ (bs : List ℕ). length bs) c.as_slice.ensures.value in
    let within = c.requires.within in
    omega (arith, few, same, within)

pub finish_moved-requires-clause-there : goal.finish_moved-requires-clause-there
finish_moved-requires-clause-there g c =
    let p = c.args.me.now.pid in
    let here = subst (λ (t : State). IsSome (process t p)) (sym c.take_bytes.ensures.state) c.requires.there in
    subst (λ (t : State). IsSome (process t p)) (sym c.store.ensures.state) (some_changed p p (with_bytes _ _) (pid_with_bytes _ _) _ here)

pub returns-clause-comes : goal.returns-clause-comes
returns-clause-comes g c = λ r k e f.
    let s = c.args.machine.now.state in
    let me = c.args.me.now in
    let span = c.args.span in
    let bytes = c.in-Some.bytes in
    let caller = c.requires.caller r e in
    let own : console_of me.session s.consoles ≡ Some k = ap (λ (q : Caller). console_of q.session s.consoles) caller ∙ f in
    let some : first_bytes span.count k.lines ≡ Some bytes = sym (c.take_bytes.ensures.bytes k own) ∙ c.in-Some.is in
    let put = with_bytes span.address in
    let state : c.store.new.machine.state ≡ after_read s r span bytes =
    c.store.ensures.state
    ∙ ap (λ (bs : List ℕ). change c.take_bytes.new.machine.state me.pid (put bs)) c.as_slice.ensures.value
    ∙ ap (λ (t : State). change t me.pid (put bytes)) c.take_bytes.ensures.state
    ∙ ap (λ (q : Caller). change (change_console s q.session (line_taken span.count)) q.pid (put bytes)) caller in
    let xs = c.args.entries.now.items in
    let ys = c.finish_moved.new.entries.items in
    let n = c.finish_moved.new.machine.state in
    let there = subst (λ (t : State). Comes c.store.new.machine.state (finish_moved t me.pid Read bytes) c.finish_moved.result xs ys n) state c.finish_moved.ensures.comes in
    let named = subst (λ (q : ℕ). Comes c.store.new.machine.state (finish_moved (after_read s r span bytes) q Read bytes) c.finish_moved.result xs ys n) (ap (λ (q : Caller). q.pid) caller) there in
    subst (λ a. Comes s a c.finish_moved.result xs ys n) (sym (read_some s r span k.lines bytes some))
    (moved_since s c.store.new.machine.state (after_read s r span bytes) r.pid Read bytes c.finish_moved.result xs ys n named)
