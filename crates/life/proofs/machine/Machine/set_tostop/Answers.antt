use Rattle.std.proofs.Common.{◌≡◌, refl, inl, rules}
use Rattle.posix.specs.Common.{with_tostop}
use Rattle.life.proofs.ConsoleLemmas.{terminal_changed, none_changed}
use Rattle.life.proofs.machine.Machine.set_tostop.Goals as goal

pub change_console-requires-clause-can : goal.change_console-requires-clause-can
unfolding with_tostop
change_console-requires-clause-can g c = λ it d r at did.
    let is : d ≡ with_tostop c.args.tostop it = search rules in
    rw is (record { session = inl refl; readers = inl ((refl, refl), refl, λ e. e); foreground = inl (refl, refl) })

pub returns-in-Some-clause-state : goal.returns-in-Some-clause-state
returns-in-Some-clause-state g c =
    terminal_changed _ _ _ _ c.args.session (with_tostop c.args.tostop) c.change_console.ensures.regular c.requires c.in-Some.ensures c.change_console.ensures.state (λ it d r did. search rules)

pub returns-in_default-clause-state : goal.returns-in_default-clause-state
returns-in_default-clause-state g c = none_changed _ c.args.session (with_tostop c.args.tostop) c.in_default.ensures
