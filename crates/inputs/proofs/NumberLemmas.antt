-- The number that a word denotes.
use Rattle.std.proofs.Common.{◌≡◌, ◌≢◌, ℕ, ◌<◌, ◌^◌, Bool, true, false, List, Some, None, Result, Ok, Err, length, refl, ap, nat_lt, lt-ltb, ltb-true, slice_index}
use Rattle.std.specs.Result.{OkIff, result_ok}
use Rattle.std.specs.Str.{all_ascii_digits}
use Rattle.std.specs.Str.Parse.{ParsesUnsigned, digits_value}
use Rattle.std.proofs.lemmas.Str.Parse.{IsNumeralModel, numerals_by_value, parse_plain, tells_all_ascii_digits}
use Rattle.inputs.specs.Numbers.{number_of}

own : IsNumeralModel (λ ds. all_ascii_digits ds ≡ true) (digits_value 10)
own = numerals_by_value _ tells_all_ascii_digits

where_read : (word : List ℕ) (n : ℕ) → all_ascii_digits word ≡ true → 0 < length word → digits_value 10 word < 2 ^ 64 → n ≡ digits_value 10 word → Some n ≡ number_of word
where_read word n digits some small is =
    let has_some : nat_lt 0 (length word) ≡ true = lt-ltb 0 (length word) some in
    let is_small : nat_lt (digits_value 10 word) (2 ^ 64) ≡ true = lt-ltb (digits_value 10 word) (2 ^ 64) small in
    rw (digits, has_some, is_small) (ap (λ (m : ℕ). Some m) is)

where_refused : (word : List ℕ) (a b c : Bool) → all_ascii_digits word ≡ a → nat_lt 0 (length word) ≡ b → nat_lt (digits_value 10 word) (2 ^ 64) ≡ c
    → ((all_ascii_digits word ≡ true) × (0 < length word) × (digits_value 10 word < 2 ^ 64) → ⊥) → None ≡ number_of word
where_refused word false b c is_a is_b is_c never = rw is_a refl
where_refused word true false c is_a is_b is_c never = rw (is_a, is_b) refl
where_refused word true true false is_a is_b is_c never = rw (is_a, is_b, is_c) refl
where_refused word true true true is_a is_b is_c never = absurd (never (is_a, ltb-true 0 (length word) is_b, ltb-true (digits_value 10 word) (2 ^ 64) is_c))

read_or_refused : {E : Type 0} (word : List ℕ) (r : Result ℕ E) → OkIff r ((all_ascii_digits word ≡ true) × (0 < length word) × (digits_value 10 word < 2 ^ 64)) (digits_value 10 word)
    → result_ok r ≡ number_of word
read_or_refused word (Ok n) h = where_read word n h.0.0 h.0.1 h.0.2 h.1
read_or_refused word (Err e) h = where_refused word _ _ _ refl refl refl h

pub number_read : {E : Type 0} (word : List ℕ) (r : Result ℕ E) → ParsesUnsigned 64 10 word r → slice_index word 0 ≢ 43 → result_ok r ≡ number_of word
number_read word r h plain = read_or_refused word r (parse_plain own 64 word r h plain)
