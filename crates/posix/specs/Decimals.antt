-- The value of decimal digits.
use Rattle.std.specs.Prelude.{ℕ, ◌+◌, ◌-◌, ◌*◌, ◌^◌, min, fold, List}

-- Returns the number that decimal digits denote.
abbrev pub value_of : List ℕ → ℕ
value_of ds = fold (λ n d. n * 10 + (d - 48)) 0 ds

-- Returns the number that decimal digits denote, or the largest u64 if the number is larger.
unfoldable pub decimal_value : List ℕ → ℕ
decimal_value ds = min (value_of ds) (2 ^ 64 - 1)
