use Rattle.std.proofs.Common.{◌≡◌, ◌∙◌, ap, sym, subst, refl, inr, slice_get, rules}
use Rattle.std.specs.Option.{IfSome}
use Rattle.std.proofs.lemmas.Bool.{or_left}
use Rattle.posix.specs.Common.{Console, console_of, acquired, State}
use Rattle.life.proofs.ReaderLemmas.{nobody_reads}
use Rattle.life.specs.Foregrounds.{is_unchecked}
use Rattle.life.proofs.ForegroundLemmas.{own_unchecked}
use Rattle.life.proofs.ViewLemmas.{state_is}
use Rattle.life.proofs.machine.Machine.acquire_console.Goals as goal

pub change_console-requires-clause-can : goal.change_console-requires-clause-can
unfolding acquired
change_console-requires-clause-can g c = λ it d r at did.
    let is : d ≡ acquired c.args.session c.args.group it = search rules in
    let same = ap (λ (s : State). s.consoles) (state_is c.self.view_is) in
    let free : it.session ≡ 0 = subst (λ o. IfSome o (λ (c : Console). c.session ≡ 0)) (ap (λ cs. slice_get cs c.args.console_index) (sym same) ∙ at) c.requires.free in
    rw is (record { session = inr (inr (free, ap (console_of c.args.session) same ∙ c.requires.none)); readers = inr (nobody_reads _ _ _ c.self.invariant.sound.regular free); foreground = inr (or_left _ _ (ap (λ u. is_unchecked u (acquired c.args.session c.args.group it)) c.also_in-self-inside.ensures ∙ own_unchecked c.args.session _ (acquired c.args.session c.args.group it) refl)) })
