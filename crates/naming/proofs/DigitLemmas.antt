-- The digits of numbers.
use Rattle.std.proofs.Common.{◌≡◌, ◌≢◌, ◌∙◌, ℕ, ◌+◌, ◌<◌, ◌^◌, ◌/◌, ◌%◌, suc, Bool, true, false, nat_lt, [], ◌∷◌, arith, refl, sym}
use Rattle.std.specs.Prelude.{ℤ, pos, negsuc}
use Rattle.std.specs.Int.Signed.{mag}
use Rattle.std.specs.Fmt.{decimal, digit_glyph, signed_decimal}
use Rattle.std.proofs.lemmas.Fmt.{decimal_by_steps}
use Rattle.std.proofs.lemmas.List.Elements.{All-cons, All-nil, All-push}
use Rattle.text.specs.Numbers.{two_digits}
use Rattle.naming.specs.Lines.{IsOneLine}
use Rattle.naming.proofs.LineLemmas.{two_one_line}

one_digit : (n : ℕ) → n < 10 → IsOneLine ((48 + n) ∷ [])
one_digit n h = let other : 48 + n ≢ 10 = omega arith in All-cons (λ b. b ≢ 10) (48 + n) [] other (All-nil (λ b. b ≢ 10))

-- no line feed is in a number
pub decimal_one_line : (n : ℕ) → n < 2 ^ 64 → IsOneLine (decimal n)
decimal_one_line n small =
    decimal_by_steps (λ n ds. IsOneLine ds) one_digit (λ n ds h k. let other : 48 + n % 10 ≢ 10 = omega arith in All-push (λ b. b ≢ 10) ds (48 + n % 10) k other) n small

pub signed_one_line : (z : ℤ) → mag z < 2 ^ 63 → IsOneLine (signed_decimal z)
signed_one_line (pos n) small = decimal_one_line n (omega (arith, small))
signed_one_line (negsuc n) small =
    let minus : 45 ≢ 10 = omega arith in
    All-cons (λ b. b ≢ 10) 45 (decimal (suc n)) minus (decimal_one_line (suc n) (omega (arith, small)))

glyph : (n : ℕ) (t : Bool) → nat_lt n 10 ≡ t → digit_glyph true n ≢ 10
glyph n true h = λ e. let is : digit_glyph true n ≡ 48 + n = rw h refl in omega (arith, sym is ∙ e)
glyph n false h = λ e. let is : digit_glyph true n ≡ 55 + n = rw h refl in omega (arith, sym is ∙ e)

-- no line feed is in the two digits of a byte
pub digits_one_line : (byte : ℕ) → IsOneLine (two_digits byte)
digits_one_line byte = two_one_line _ _ (glyph (byte / 16) (nat_lt (byte / 16) 10) refl) (glyph (byte % 16) (nat_lt (byte % 16) 10) refl)
