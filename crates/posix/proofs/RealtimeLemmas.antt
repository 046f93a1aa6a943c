-- Real-time signals do nothing at once, so that one for a process leaves the others; the signal of a key is none of them.
use Rattle.std.proofs.Common.{◌≡◌, ℕ, true, false, refl, ap, sym, ◌∙◌, arith, List, Option, Some, None, ◌==◌}
use Rattle.std.proofs.lemmas.Bool.Decides.{nat_tests}
use Rattle.posix.specs.declared.process.Effect.TheVariants as effect
use Rattle.posix.specs.declared.process.Life.{Life}
use Rattle.posix.specs.declared.process.PendingSignal.{PendingSignal}
use Rattle.posix.specs.Common.{is_realtime, is_stop_signal, CONT, Process, Signals, lookup, changed, key_signal, signalled, effect_of, acted_upon, generated_for}
use Rattle.posix.proofs.TableLemmas.{pid_looked, changed_absent}

-- none is CONT or stops
pub realtime_not : (n : ℕ) → is_realtime n ≡ true → ((n == CONT) ≡ false) × (is_stop_signal n ≡ false)
realtime_not n e = (grind (arith, nat_tests, e), grind (arith, nat_tests, e))

-- it does nothing at once
pub realtime_effect : (p : ℕ) (life : Life) (m : PendingSignal) (g : Signals) → is_realtime m.sig ≡ true → effect_of p life m g ≡ effect.Nothing
unfolding effect_of
realtime_effect p life m g e = rw (realtime_not m.sig e).0 refl

-- so it changes the process that it is generated for, and no other
pub generated_alone : (m : PendingSignal) (p : ℕ) (o : Option Process) (rs : List Process) → is_realtime m.sig ≡ true → lookup p rs ≡ o → generated_for m o rs ≡ changed p (signalled m) rs
generated_alone m p None rs e is = sym (changed_absent p (signalled m) rs is)
generated_alone m p (Some r) rs e is =
    ap (λ w. acted_upon w r (changed r.pid (signalled m) rs)) (realtime_effect r.pid r.life m r.signals e)
    ∙ ap (λ q. changed q (signalled m) rs) (pid_looked p rs r is)

-- the signal of a key is a standard signal, and continues no process
pub key_standard : (byte sig : ℕ) → key_signal byte ≡ Some sig → (is_realtime sig ≡ false) × ((sig == CONT) ≡ false)
unfolding key_signal
key_standard byte sig e = (grind (arith, e), grind (arith, e))
