use Rattle.std.proofs.Common.{◌≡◌, ◌∙◌, ap, sym, subst, refl, inl, inr, slice_get, rules}
use Rattle.std.proofs.lemmas.Bool.{or_right}
use Rattle.posix.specs.Common.{released, State}
use Rattle.life.specs.Consoles.{AreReaders}
use Rattle.life.proofs.ViewLemmas.{state_is}
use Rattle.life.proofs.machine.Machine.release.Goals as goal

pub change_console-requires-clause-can : goal.change_console-requires-clause-can
unfolding released
change_console-requires-clause-can g c = λ it d r at did.
    let is : d ≡ released it = search rules in
    let own = c.requires it (ap (λ (s : State). slice_get s.consoles c.args.console_index) (sym (state_is c.recheck_readers.ensures.rest)) ∙ at) in
    let theirs = subst (λ n. AreReaders c.recheck_readers.new.self.state n c.recheck_readers.new.self.to_recheck) (sym own) c.recheck_readers.ensures.to_recheck in
    rw is (record { session = inr (inl refl); readers = inr theirs; foreground = inr (or_right _ _ refl) })
