-- Sets of signals as 64 bits: signal s is bit s - 1 (signal(7), sigset_t).
use Rattle.std.specs.Prelude.{ℕ, ◌+◌, ◌-◌, ◌^◌, ◌==◌, Bool, ℤ, bit_and, bit_or}
use Rattle.std.specs.Int.{bit_at, cast_signed, cast_unsigned, w64}

abbrev pub has : ℕ → ℕ → Bool
has set s = bit_at set (s - 1) == 1

-- Returns the set of one signal.
abbrev pub just : ℕ → ℕ
just s = 2 ^ (s - 1)

abbrev pub union : ℕ → ℕ → ℕ
union a b = bit_or a b

-- Returns the signals of a that are not in b.
abbrev pub except : ℕ → ℕ → ℕ
except a b = bit_and a (2 ^ 64 - 1 - b)

-- SIGKILL and SIGSTOP can't be blocked (XSH sigprocmask), and 32 and 33 are not signals (own).
abbrev pub unblockable : ℕ
unblockable = 2 ^ 8 + 2 ^ 18 + 2 ^ 31 + 2 ^ 32

-- Returns the signals of a set that a mask can have.
abbrev pub maskable : ℕ → ℕ
maskable set = except set unblockable

-- Returns the set that a register holds.
abbrev pub set_in : ℤ → ℕ
set_in z = cast_unsigned w64 z

-- Returns a set as a register holds it.
abbrev pub word_of : ℕ → ℤ
word_of set = cast_signed w64 set
