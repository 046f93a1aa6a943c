-- Numbers, signals, statuses and bytes are read back from what was printed of them.
use Rattle.std.proofs.Common.{◌≡◌, ℕ, suc, ◌^◌, ◌<◌, ◌≤◌, ◌==◌, true, false, not, List, [], ◌∷◌, length, Some, refl, ap, ◌∙◌, arith}
use Rattle.std.specs.Prelude.{decimal, nat_lt, ℤ, pos, negsuc, neg_ℤ}
use Rattle.std.specs.Fmt.{signed_decimal}
use Rattle.std.specs.Str.Parse.{AllDigits}
use Rattle.std.proofs.lemmas.Str.Parse.{digit_from_value}
use Rattle.std.proofs.lemmas.Fmt.{decimal_is_IsNumeral, decimal_nonempty, length-decimal-le}
use Rattle.std.proofs.lemmas.Bool.{ltb-true}
use Rattle.std.proofs.lemmas.Bool.Decides.{nat_tests}
use Rattle.posix.specs.Common.{is_signal, decimal_value, is_i64}
use Rattle.posix.proofs.DecimalLemmas.{digits_all, decimal_back}
use Rattle.trace.specs.Words.{integer, fitting, pid_in, sig_in, status_in}
use Rattle.trace.proofs.WordLemmas.{is_clean}

-- ---- digits

pub decimal_clean : (n : ℕ) → n < 2 ^ 64 → is_clean (decimal n) ≡ true
decimal_clean n h = digits_all (λ b. not (b == 32)) (λ b low high. grind (arith, nat_tests)) (decimal n) (decimal_is_IsNumeral n h).0.1

-- at most 20 digits
pub decimal_len : (n : ℕ) → n < 2 ^ 64 → length (decimal n) ≤ 20
decimal_len n h = length-decimal-le 20 n (omega arith) (omega arith) (omega arith)

-- ---- what has a range

pub pid_back : (p : ℕ) → p ≤ 2147483647 → pid_in (decimal p) ≡ Some p
unfolding pid_in
pid_back p h = rw (decimal_back p (omega arith)) (grind (arith, nat_tests))

pub sig_size : (s : ℕ) → is_signal s ≡ true → s < 2 ^ 64
sig_size s h = grind (arith, nat_tests)

pub sig_back : (s : ℕ) → is_signal s ≡ true → sig_in (decimal s) ≡ Some s
unfolding sig_in
sig_back s h = rw (decimal_back s (sig_size s h), h) refl

pub status_back : (w : ℕ) → w ≤ 65535 → status_in (decimal w) ≡ Some w
unfolding status_in
status_back w h = rw (decimal_back w (omega arith)) (grind (arith, nat_tests))

-- ---- signed numbers

i64_size : (n : ℕ) → nat_lt n 9223372036854775808 ≡ true → suc n < 2 ^ 64
i64_size n h = omega (arith, ltb-true n 9223372036854775808 h)

-- a number that begins with a digit has no sign
unsigned : (ds : List ℕ) → 0 < length ds → AllDigits 10 ds → integer ds ≡ fitting (pos (decimal_value ds))
unfolding integer
unsigned [] some d = absurd (omega arith)
unsigned (c ∷ cs) some d =
    let k = digit_from_value c d.0 in
    let plain : (c == 45) ≡ false = grind (arith, nat_tests, k.0, k.1) in
    rw plain refl

pub integer_back : (z : ℤ) → is_i64 z ≡ true → integer (signed_decimal z) ≡ Some z
unfolding integer
integer_back (pos n) h =
    let size : n < 2 ^ 64 = omega (arith, i64_size n h) in
    unsigned (decimal n) (decimal_nonempty n size) (decimal_is_IsNumeral n size).0.1
    ∙ ap (λ (m : ℕ). fitting (pos m)) (decimal_back n size) ∙ rw h refl
integer_back (negsuc n) h =
    ap (λ (m : ℕ). fitting (neg_ℤ (pos m))) (decimal_back (suc n) (i64_size n h)) ∙ rw h refl

pub signed_clean : (z : ℤ) → is_i64 z ≡ true → is_clean (signed_decimal z) ≡ true
signed_clean (pos n) h = decimal_clean n (omega (arith, i64_size n h))
signed_clean (negsuc n) h = decimal_clean (suc n) (i64_size n h)

-- at most a sign and 20 digits
pub signed_len : (z : ℤ) → is_i64 z ≡ true → length (signed_decimal z) ≤ 21
signed_len (pos n) h = omega (arith, decimal_len n (omega (arith, i64_size n h)))
signed_len (negsuc n) h = omega (arith, decimal_len (suc n) (i64_size n h))
