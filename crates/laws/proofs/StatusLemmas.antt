-- Status words of ends, stops and continues are apart.
use Rattle.std.proofs.Common.{◌≡◌, ℕ, ◌*◌, ◌/◌, ◌%◌, ◌≤◌, true, false, ◌==◌, refl, arith, nat_le, ℤ}
use Rattle.std.specs.Int.{cast_unsigned, w64}
use Rattle.std.proofs.lemmas.Bool.{cases_Bool, eq-eqb, and_parts, leb-true}
use Rattle.std.proofs.lemmas.Bool.Decides.{nat_tests}
use Rattle.posix.specs.Common.{is_signal, is_stop_signal, exited, stopped, tells_end, is_end_word, is_stopped_word, is_continued_word}

-- the word of a stop
pub record IsStopWord (s : ℕ) : Type 0 where
  pub end : is_end_word (stopped s) ≡ false
  pub stop : is_stopped_word (stopped s) ≡ true
  pub continue : is_continued_word (stopped s) ≡ false
  pub signal : stopped s / 256 ≡ s
  pub tells : tells_end (stopped s) ≡ false

pub stop_word : (s : ℕ) → is_stop_signal s ≡ true → IsStopWord s
stop_word s h =
    let both = and_parts (nat_le 19 s) (nat_le s 22) h in
    let low = leb-true 19 s both.0 in
    let high = leb-true s 22 both.1 in
    let signal : stopped s / 256 ≡ s = omega arith in
    let low_byte : stopped s % 256 ≡ 127 = omega arith in
    record { end = grind (arith, nat_tests, low, high, low_byte); stop = rw (low_byte, signal, h) refl; continue = grind (arith, nat_tests, low, high); signal = signal; tells = grind (arith, nat_tests, low_byte) }

-- the word of an end tells of one
pub end_tells : (w : ℕ) → is_end_word w ≡ true → tells_end w ≡ true
end_tells w h = grind (arith, nat_tests, cases_Bool, h)

-- each signal kills, and so ends
pub killed_word : (s : ℕ) → is_signal s ≡ true → is_end_word s ≡ true
killed_word s h = rw h (grind (arith, cases_Bool))

-- an exit has one, too
pub exited_word : (z : ℤ) → is_end_word (exited z) ≡ true
exited_word z =
    let n = cast_unsigned w64 z in
    let zero : n % 256 * 256 % 256 ≡ 0 = omega arith in
    let high : n % 256 * 256 ≤ 65280 = omega arith in
    let one : (n % 256 * 256 % 256 == 0) ≡ true = eq-eqb _ _ zero in
    let two : nat_le (n % 256 * 256) 65280 ≡ true = grind (arith, nat_tests, high) in
    rw (one, two) refl
