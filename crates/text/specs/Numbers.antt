-- Numbers in words.
use Rattle.std.specs.Prelude.{ℕ, ◌+◌, ◌*◌, ◌/◌, ◌%◌, true, length, nat_lt, ◌==◌, ◌&&◌, ℤ, pos, neg_ℤ, negsuc, Bool, List, [], ◌∷◌, if◌then◌else◌, Option, Some, None, Result, Ok, Err, int_le, unsigned_abs, option_map}
use Rattle.std.specs.List.{list_all}
use Rattle.std.specs.Char.{is_ascii_digit, is_digit, digit_value}
use Rattle.std.specs.Fmt.{digit_glyph}
use Rattle.posix.specs.Common.{value_of}
use Rattle.text.specs.declared.fault.Reason.{Reason}
use Rattle.text.specs.declared.fault.Reason.TheVariants.{BadNumber, OutOfRange}
use Rattle.text.specs.Reading.{◌>>=◌}

-- one or more decimal digits
abbrev pub is_numeral : List ℕ → Bool
is_numeral ds = nat_lt 0 (length ds) && list_all is_ascii_digit ds

-- a number without a sign
abbrev pub natural : List ℕ → Option ℕ
natural ds = if is_numeral ds then Some (value_of ds) else None

-- an optional `-` and one or more digits
abbrev pub number : List ℕ → Option ℤ
number [] = None
number (b ∷ bs) = if b == 45 then option_map (λ n. neg_ℤ (pos n)) (natural bs) else option_map pos (natural (b ∷ bs))

-- from low to high
abbrev pub is_within : ℤ → ℤ → ℤ → Bool
is_within low high z = int_le low z && int_le z high

-- from -2 ^ 63 to 2 ^ 63 - 1
abbrev pub is_i64 : ℤ → Bool
is_i64 z = is_within (negsuc 9223372036854775807) (pos 9223372036854775807) z

-- a number, which must exist and be in range
abbrev pub ranged : ℕ → ℕ → Option ℤ → Result ℕ Reason
ranged low high None = Err BadNumber
ranged low high (Some z) = if is_within (pos low) (pos high) z then Ok (unsigned_abs z) else Err OutOfRange

-- a number from low to high
abbrev pub number_in : ℕ → ℕ → List ℕ → Result ℕ Reason
number_in low high w = ranged low high (number w)

-- a number, which must exist and fit into i64
abbrev pub fitting : Option ℤ → Result ℤ Reason
fitting None = Err BadNumber
fitting (Some z) = if is_i64 z then Ok z else Err OutOfRange

-- an i64
abbrev pub integer : List ℕ → Result ℤ Reason
integer w = fitting (number w)

-- the value of a hexadecimal digit in either case
abbrev pub hex_digit : ℕ → Result ℕ Reason
hex_digit b = if is_digit b 16 then Ok (digit_value b) else Err BadNumber

-- a byte: exactly two hexadecimal digits
abbrev pub byte_in : List ℕ → Result ℕ Reason
byte_in (h ∷ l ∷ []) = do
  high ← hex_digit h
  low ← hex_digit l
  Ok (high * 16 + low)
byte_in _ = Err BadNumber

-- a byte as two hexadecimal digits
abbrev pub two_digits : ℕ → List ℕ
two_digits byte = digit_glyph true (byte / 16) ∷ digit_glyph true (byte % 16) ∷ []
