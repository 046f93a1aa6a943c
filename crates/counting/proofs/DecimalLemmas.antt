-- How a number is printed in decimal.
use Rattle.std.proofs.Common.{rules, ◌≡◌, ℕ, zero, suc, ◌+◌, ◌-◌, ◌*◌, ◌^◌, ◌/◌, ◌%◌, ◌<◌, ◌≤◌, inl, inr, false, List, [], ◌∷◌, ◌++◌, length, replicate, refl, ap, ap₂, sym, arith, ◌∙◌, append-nil, append_assoc, pow-suc, length-append}
use Rattle.std.proofs.Math.Nat.{mul-pos, one-le-pow}
use Rattle.std.proofs.lemmas.Bool.{cases_lt}
use Rattle.std.proofs.lemmas.Fmt.{PrependsLastDigit, decimal_by_steps}
use Rattle.std.proofs.lemmas.List.{replicate_more}
use Rattle.std.specs.Fmt.{char_count, padded_integral}
use Rattle.std.specs.Fmt.{decimal, digits_onto, format_spec, styled_decimal}
use Rattle.counting.specs.Numbers.{base, in_decimal}

steps : PrependsLastDigit (λ k n ds. digits_onto k 10 false n ds)
steps = search rules

-- Digits are put before others, whatever these are and however large the number of steps.
digits_before : (j k n : ℕ) (ds : List ℕ) → n < j → n < k → digits_onto j 10 false n ds ≡ digits_onto k 10 false n [] ++ ds
digits_before zero k n ds below_j below_k = absurd (omega arith)
digits_before (suc j) zero n ds below_j below_k = absurd (omega arith)
digits_before (suc j) (suc k) n ds below_j below_k =
    elim (cases_lt n 10) [
      | inl one ↦ steps.one j n ds one ∙ ap (λ xs. xs ++ ds) (sym (steps.one k n [] one))
      | inr more ↦
          let high : ℕ = n / 10 in
          let last : List ℕ = (48 + n % 10) ∷ [] in
          steps.more j n ds more ∙ digits_before j k high (last ++ ds) (omega arith) (omega arith)
          ∙ sym (ap (λ xs. xs ++ ds) (steps.more k n [] more ∙ digits_before k k high last (omega arith) (omega arith)) ∙ append_assoc (digits_onto k 10 false high []) last ds)
    ]

decimal_one : (n : ℕ) → n < 10 → in_decimal n ≡ (48 + n) ∷ []
unfolding in_decimal
decimal_one n one = steps.one n n [] one

decimal_more : (n : ℕ) → 10 ≤ n → in_decimal n ≡ in_decimal (n / 10) ++ (48 + n % 10) ∷ []
unfolding in_decimal
decimal_more n more = steps.more n n [] more ∙ digits_before n (suc (n / 10)) (n / 10) ((48 + n % 10) ∷ []) (omega arith) (omega arith)

-- That is what std prints.
pub decimal_is : (n : ℕ) → n < 2 ^ 64 → in_decimal n ≡ decimal n
decimal_is = decimal_by_steps (λ n ds. in_decimal n ≡ ds) decimal_one (λ n ds more is. decimal_more n more ∙ ap (λ xs. xs ++ (48 + n % 10) ∷ []) is)

-- With zeros in front, as many as the width wants.
abbrev pub padded : ℕ → List ℕ → List ℕ
padded width ds = replicate (width - length ds) 48 ++ ds

padded_more : (width n : ℕ) → 0 < width → padded width (in_decimal (n / 10)) ++ (48 + n % 10) ∷ [] ≡ padded (suc width) (in_decimal n)
padded_more width n some =
    elim (cases_lt n 10) [
      | inl one ↦
          let none : n / 10 ≡ 0 = omega arith in
          let same : n % 10 ≡ n = omega arith in
          let wide : width - 1 + 1 ≡ suc width - 1 = omega arith in
          rw (none, same, decimal_one 0 (omega arith), decimal_one n one) (ap (λ xs. xs ++ (48 + n) ∷ []) {x = replicate (width - 1) 48 ++ 48 ∷ []} (replicate_more (width - 1) 48 ∙ ap (λ n. replicate n 48) wide))
      | inr more ↦
          let high = in_decimal (n / 10) in
          let last : List ℕ = (48 + n % 10) ∷ [] in
          let is = decimal_more n more in
          append_assoc (replicate (width - length high) 48) high last
          ∙ ap₂ (λ zeros ds. replicate zeros 48 ++ ds) {x = width - length high} {y = suc width - length (in_decimal n)} (omega (arith, ap length is, length-append high last)) (sym is)
    ]

-- The last digits of a number, as many as the width.
pub decimal_padded : (width low high : ℕ) → low < 10 ^ suc width → 0 < high → in_decimal (low + 10 ^ suc width * high) ≡ in_decimal high ++ padded (suc width) (in_decimal low)
decimal_padded zero low high small some =
    let n : ℕ = low + 10 ^ 1 * high in
    let front : n / 10 ≡ high = omega arith in
    let last : n % 10 ≡ low = omega arith in
    decimal_more n (omega arith) ∙ rw (front, last, decimal_one low (omega arith)) refl
decimal_padded (suc width) low high small some =
    let pow = pow-suc 10 (suc width) in
    let part : ℕ = 10 ^ suc width * high in
    let n : ℕ = low + 10 ^ suc (suc width) * high in
    let is : n ≡ low + 10 * part = omega (arith, ap (λ p. p * high) pow) in
    let positive : 0 < part = mul-pos (one-le-pow (suc width) 10 (omega arith)) some in
    let front : n / 10 ≡ low / 10 + part = omega (arith, is) in
    let last : n % 10 ≡ low % 10 = omega (arith, is) in
    decimal_more n (omega (arith, is, positive)) ∙ ap₂ (λ m d. in_decimal m ++ (48 + d) ∷ []) front last
    ∙ ap (λ ds. ds ++ (48 + low % 10) ∷ []) (decimal_padded width (low / 10) high (omega (arith, small, pow)) some)
    ∙ append_assoc (in_decimal high) (padded (suc width) (in_decimal (low / 10))) ((48 + low % 10) ∷ [])
    ∙ ap (λ ds. in_decimal high ++ ds) (padded_more (suc width) low (omega arith))

-- What std prints of a limb in 18 digits.
limb_printed : (low : ℕ) → low < base → styled_decimal (format_spec 32 0 4 18 (2 ^ 64 - 1)) low ≡ padded 18 (in_decimal low)
unfolding padded_integral char_count
limb_printed low small =
    let ds = in_decimal low in
    rw (sym (decimal_is low (omega arith))) (ap₂ (λ n xs. replicate n 48 ++ xs) {x = 18 - length ds - 0 - 0} {y = 18 - length ds} (omega arith) (append-nil ds))

pub limb_written : (low high : ℕ) (old new : List ℕ) → low < base → 0 < high → old ≡ in_decimal high → new ≡ old ++ styled_decimal (format_spec 32 0 4 18 (2 ^ 64 - 1)) low
    → new ≡ in_decimal (low + base * high)
limb_written low high old new small some before more = more ∙ ap₂ (λ xs ys. xs ++ ys) before (limb_printed low small) ∙ sym (decimal_padded 17 low high small some)
