-- Numbers and bytes are read back from their digits.
use Rattle.std.proofs.Common.{◌≡◌, ℕ, ◌+◌, ◌-◌, ◌*◌, ◌/◌, ◌%◌, ◌^◌, ◌<◌, ◌≤◌, ◌==◌, true, false, List, [], ◌∷◌, length, Some, Ok, refl, arith}
use Rattle.std.specs.Prelude.{decimal, nat_lt, nat_le, pos, map}
use Rattle.std.specs.List.{list_all}
use Rattle.std.specs.Char.{is_ascii_digit, is_digit, digit_value}
use Rattle.std.specs.Fmt.{digit_glyph}
use Rattle.std.specs.Str.Parse.{AllDigits}
use Rattle.std.proofs.lemmas.Str.Parse.{digit_from_value}
use Rattle.std.proofs.lemmas.Fmt.{decimal_is_IsNumeral, decimal_nonempty}
use Rattle.std.proofs.lemmas.Bool.{and_parts, lt-ltb, ltb-true}
use Rattle.std.proofs.lemmas.Bool.Decides.{nat_tests}
use Rattle.posix.specs.Common.{value_of}
use Rattle.posix.proofs.DecimalLemmas.{digits_all, value_back}
use Rattle.text.specs.Numbers.{number, number_in, byte_in, hex_digit, two_digits}
use Rattle.text.specs.EventTexts.{bytes_within}
use Rattle.schedules.proofs.LineLemmas.{is_plain, is_plain_word}

-- ---- decimal digits

pub decimal_plain : (n : ℕ) → n < 2 ^ 64 → is_plain_word (decimal n) ≡ true
decimal_plain n h = rw (lt-ltb 0 (length (decimal n)) (decimal_nonempty n h), digits_all is_plain (λ b low high. grind (arith, nat_tests)) (decimal n) (decimal_is_IsNumeral n h).0.1) refl

-- Digits have no sign.
unsigned : (ds : List ℕ) → 0 < length ds → AllDigits 10 ds → number ds ≡ Some (pos (value_of ds))
unsigned [] some d = absurd (omega arith)
unsigned (c ∷ cs) some d =
    let k = digit_from_value c d.0 in
    let plain : (c == 45) ≡ false = grind (arith, nat_tests, k.0, k.1) in
    let digits : list_all is_ascii_digit (c ∷ cs) ≡ true = digits_all is_ascii_digit (λ b low high. grind (arith, nat_tests)) (c ∷ cs) d in
    rw (plain, lt-ltb 0 (length (c ∷ cs)) some, digits) refl

pub number_back : (low high n : ℕ) → n < 2 ^ 64 → low ≤ n → n ≤ high → number_in low high (decimal n) ≡ Ok n
number_back low high n h least most =
    let from : nat_le low n ≡ true = grind (arith, nat_tests, least) in
    let to : nat_le n high ≡ true = grind (arith, nat_tests, most) in
    rw (unsigned (decimal n) (decimal_nonempty n h) (decimal_is_IsNumeral n h).0.1, value_back n h, from, to) refl

-- ---- hexadecimal digits

digit_is : (n : ℕ) → n < 16 → is_digit (digit_glyph true n) 16 ≡ true
digit_is n h = grind (arith, nat_tests)

digit_back : (n : ℕ) → n < 16 → digit_value (digit_glyph true n) ≡ n
digit_back n h = grind (arith, nat_tests)

digit_plain : (n : ℕ) → n < 16 → is_plain (digit_glyph true n) ≡ true
digit_plain n h = grind (arith, nat_tests)

hex_back : (n : ℕ) → n < 16 → hex_digit (digit_glyph true n) ≡ Ok n
hex_back n h = rw (digit_is n h, digit_back n h) refl

byte_back : (byte : ℕ) → byte < 256 → byte_in (two_digits byte) ≡ Ok byte
byte_back byte h =
    let whole : byte / 16 * 16 + byte % 16 ≡ byte = omega arith in
    rw (hex_back (byte / 16) (omega arith), hex_back (byte % 16) (omega arith), whole) refl

byte_plain : (byte : ℕ) → byte < 256 → is_plain_word (two_digits byte) ≡ true
byte_plain byte h = rw (digit_plain (byte / 16) (omega arith), digit_plain (byte % 16) (omega arith)) refl

pub bytes_plain : (bytes : List ℕ) → list_all (λ b. nat_lt b 256) bytes ≡ true → list_all is_plain_word (map two_digits bytes) ≡ true
bytes_plain [] h = refl
bytes_plain (b ∷ bs) h =
    let both = and_parts (nat_lt b 256) (list_all (λ c. nat_lt c 256) bs) h in
    rw (byte_plain b (ltb-true b 256 both.0), bytes_plain bs both.1) refl

pub bytes_back : (room : ℕ) (bytes : List ℕ) → list_all (λ b. nat_lt b 256) bytes ≡ true → length bytes ≤ room → bytes_within room (map two_digits bytes) ≡ Ok bytes
bytes_back room [] h fits = refl
bytes_back room (b ∷ bs) h fits =
    let both = and_parts (nat_lt b 256) (list_all (λ c. nat_lt c 256) bs) h in
    let some : nat_lt 0 room ≡ true = lt-ltb 0 room (omega arith) in
    rw (byte_back b (ltb-true b 256 both.0), some, bytes_back (room - 1) bs both.1 (omega arith)) refl
