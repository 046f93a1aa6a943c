-- A number is read back from its decimal digits.
use Rattle.std.proofs.Common.{◌≡◌, ℕ, ◌+◌, ◌-◌, ◌*◌, ◌^◌, ◌<◌, ◌≤◌, Bool, true, List, [], ◌∷◌, refl, ap, ◌∙◌, arith}
use Rattle.std.specs.Prelude.{fold, decimal, min}
use Rattle.std.specs.List.{list_all}
use Rattle.std.specs.Str.Parse.{AllDigits}
use Rattle.std.proofs.lemmas.Str.Parse.{FoldsDigits, numerals_by_fold, tells_digits, digit_from_value}
use Rattle.std.proofs.lemmas.Fmt.{digits_value-decimal}
use Rattle.posix.specs.Common.{value_of, decimal_value}

-- what each digit meets
pub digits_all : (P : ℕ → Bool) → ((b : ℕ) → 48 ≤ b → b ≤ 57 → P b ≡ true) → (ds : List ℕ) → AllDigits 10 ds → list_all P ds ≡ true
digits_all P each [] d = refl
digits_all P each (c ∷ cs) d = let k = digit_from_value c d.0 in rw (each c k.0 k.1, digits_all P each cs d.1) refl

value_folds : FoldsDigits (λ n ds. fold (λ m d. m * 10 + (d - 48)) n ds)
value_folds = record { empty = λ n. refl; more = λ n c cs k. refl }

pub value_back : (n : ℕ) → n < 2 ^ 64 → value_of (decimal n) ≡ n
value_back n h = digits_value-decimal (numerals_by_fold (AllDigits 10) tells_digits (λ m ds. fold (λ k d. k * 10 + (d - 48)) m ds) value_folds) n h

pub decimal_back : (n : ℕ) → n < 2 ^ 64 → decimal_value (decimal n) ≡ n
unfolding decimal_value
decimal_back n h = ap (λ m. min m (2 ^ 64 - 1)) (value_back n h) ∙ grind arith
