-- Words of a line by position, and their values. The value of a printed word is what was printed; for any other word,
-- it is only a guess.
use Rattle.std.specs.Prelude.{ℕ, ◌/◌, ◌==◌, length, nat_le, ℤ, pos, neg_ℤ, List, [], ◌∷◌, if◌then◌else◌, Option, Some, None, Result, Ok, Err}
use Rattle.std.specs.List.{before_first, after_first}
use Rattle.hex.specs.Hex.{decode_of}
use Rattle.hex.specs.declared.error.FromHexError.{FromHexError}
use Rattle.posix.specs.Common.{decimal_value, is_signal, is_i64}

infixl 10 ◌>>=◌
abbrev pub ◌>>=◌ : {A B : Type 0} → Option A → (A → Option B) → Option B
None >>= f = None
Some x >>= f = f x

-- Returns the first word.
abbrev pub word : List ℕ → List ℕ
word text = before_first (λ b. b == 32) text

-- Returns what follows the space after the first word.
abbrev pub behind : List ℕ → List ℕ
behind text = after_first (λ b. b == 32) text

-- Returns the number, if it is an i64.
abbrev pub fitting : ℤ → Option ℤ
fitting z = if is_i64 z then Some z else None

-- Returns the number that decimal digits denote, negated after a `-`, if it is an i64.
unfoldable pub integer : List ℕ → Option ℤ
integer [] = fitting (pos (decimal_value []))
integer (b ∷ bs) = if b == 45 then fitting (neg_ℤ (pos (decimal_value bs))) else fitting (pos (decimal_value (b ∷ bs)))

-- Returns a process ID, or 0.
unfoldable pub pid_in : List ℕ → Option ℕ
pid_in w = if nat_le (decimal_value w) 2147483647 then Some (decimal_value w) else None

-- Returns a signal number, if it is one.
unfoldable pub sig_in : List ℕ → Option ℕ
sig_in w = if is_signal (decimal_value w) then Some (decimal_value w) else None

-- Returns a wait status, if the number is in range.
unfoldable pub status_in : List ℕ → Option ℕ
status_in w = if nat_le (decimal_value w) 65535 then Some (decimal_value w) else None

abbrev pub decoded : Result (List ℕ) FromHexError → Option (List ℕ)
decoded (Ok bytes) = Some bytes
decoded (Err e) = None

-- Returns at most 16 bytes, from two digits per byte.
unfoldable pub bytes_in : List ℕ → Option (List ℕ)
bytes_in w = if nat_le (length w / 2) 16 then decoded (decode_of w) else None
