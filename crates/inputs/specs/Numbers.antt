-- The number that a word denotes.
use Rattle.std.specs.Prelude.{ℕ, ◌^◌, ◌&&◌, Bool, List, Option, Some, None, Result, Ok, Err, length, nat_le, nat_lt, if◌then◌else◌}
use Rattle.std.specs.Result.{result_ok}
use Rattle.std.specs.Str.{all_ascii_digits}
use Rattle.std.specs.Str.Parse.{digits_value}
use Rattle.inputs.specs.declared.NumberFault.{NumberFault}
use Rattle.inputs.specs.declared.NumberFault.TheVariants.{NoNumber, Above}

-- a number below 2^64: one or more decimal digits, and nothing else
abbrev pub is_number : List ℕ → Bool
is_number word = all_ascii_digits word && (nat_lt 0 (length word) && nat_lt (digits_value 10 word) (2 ^ 64))

abbrev pub number_of : List ℕ → Option ℕ
number_of word = if is_number word then Some (digits_value 10 word) else None

abbrev pub at_most : ℕ → Option ℕ → Result ℕ NumberFault
at_most most None = Err NoNumber
at_most most (Some n) = if nat_le n most then Ok n else Err (Above n)

-- the number in the value of an option, if it is at most `most`, or why it is rejected; `unnamed` if there is no value
abbrev pub number_up_to : ℕ → ℕ → Option (List ℕ) → Result ℕ NumberFault
number_up_to unnamed most None = Ok unnamed
number_up_to unnamed most (Some word) = at_most most (number_of word)

-- the number, if it is accepted
abbrev pub number_asked : ℕ → ℕ → Option (List ℕ) → Option ℕ
number_asked unnamed most word = result_ok (number_up_to unnamed most word)
