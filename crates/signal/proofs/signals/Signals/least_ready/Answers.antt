use Rattle.std.proofs.Common.{◌≡◌, ◌-◌, ◌+◌, ◌<◌, ◌^◌, ◌∙◌, ap, sym, bit_and, arith, Bool, false, Option, IsSome, IfSome, ℕ, true, find, refl}
use Rattle.std.specs.Int.{trailing_zeros, w64}
use Rattle.std.proofs.lemmas.Nat.{and_le_l}
use Rattle.posix.specs.Common.{all_signals, is_ready, least_ready as least_ready_of, is_signal, except, has}
use Rattle.posix.proofs.RangeLemmas.{is_that}
use Rattle.signal.specs.SignalTables.{signals_of}
use Rattle.signal.proofs.SetLemmas.{none_ready, least_is, is_ready_by, is_unready}
use Rattle.signal.proofs.signals.Signals.least_ready.Goals as goal

-- the signal with that number is the lowest one
least_from : (f : ℕ → Bool) (r : ℕ) (o : Option ℕ) → ((s : ℕ) → s < 65 → f s ≡ has r s) → f 32 ≡ false → f 33 ≡ false → (r ≡ 0 → ⊥) → r < 2 ^ 64
    → (is_signal (trailing_zeros w64 r + 1) ≡ true → IsSome o) → IfSome o (λ s. s ≡ trailing_zeros w64 r + 1) → o ≡ find f all_signals
least_from f r o same e e2 some small there is =
    let least = least_is f r same e e2 (omega (arith, some)) small in
    is_that o (trailing_zeros w64 r + 1) (there least.0) is ∙ sym least.1

pub returns-then-ready-eq0 : goal.returns-then-ready-eq0
unfolding least_ready_of
returns-then-ready-eq0 c =
    let s = c.self.inside in
    let marks = c.self.invariant.2 in
    let small : s.mask < 2 ^ 64 = omega (arith, c.bits-2.type_inv, c.bits-2.ensures) in
    let e : bit_and c.bits.result (2 ^ 64 - 1 - c.bits-2.result) ≡ except s.pending s.mask = ap (λ n. bit_and n (2 ^ 64 - 1 - c.bits-2.result)) c.bits.ensures ∙ ap (except s.pending) c.bits-2.ensures in
    sym (none_ready (is_ready (signals_of s.mask s.pending s.tables)) (except s.pending s.mask) (is_ready_by s.mask s.pending s.tables marks small)
    (is_unready s.mask s.pending s.tables marks 32 (omega arith) refl) (is_unready s.mask s.pending s.tables marks 33 (omega arith) refl) (sym e ∙ c.if-ready-eq0.true))
    ∙ ap least_ready_of c.self.view_is

pub returns : goal.returns
unfolding least_ready_of
returns c =
    let s = c.self.inside in
    let marks = c.self.invariant.2 in
    let small : s.mask < 2 ^ 64 = omega (arith, c.bits-2.type_inv, c.bits-2.ensures) in
    let r : ℕ = bit_and c.bits.result (2 ^ 64 - 1 - c.bits-2.result) in
    let e : r ≡ except s.pending s.mask = ap (λ n. bit_and n (2 ^ 64 - 1 - c.bits-2.result)) c.bits.ensures ∙ ap (except s.pending) c.bits-2.ensures in
    let fits : r < 2 ^ 64 = omega (arith, c.bits.type_inv, and_le_l c.bits.result (2 ^ 64 - 1 - c.bits-2.result)) in
    least_from (is_ready (signals_of s.mask s.pending s.tables)) r c.new.result (λ n l. is_ready_by s.mask s.pending s.tables marks small n l ∙ ap (λ b. has b n) (sym e))
    (is_unready s.mask s.pending s.tables marks 32 (omega arith) refl) (is_unready s.mask s.pending s.tables marks 33 (omega arith) refl) c.if-ready-eq0.false fits c.new.ensures.some.1 c.new.ensures.value
    ∙ ap least_ready_of c.self.view_is
