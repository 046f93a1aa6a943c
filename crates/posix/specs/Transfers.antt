-- Transfers by read and write: bytes between a terminal and the memory of a process, XSH read and write.
use Rattle.std.specs.Prelude.{ℕ, ◌+◌, ◌%◌, ◌&&◌, if◌then◌else◌, nat_le, List, [], ◌∷◌, map, take, drop, slice_set, ℤ, pos, negsuc, Result, Ok, Err}
use Rattle.std.specs.Int.{w64, cast_unsigned}
use Rattle.posix.specs.declared.errno.Errno.{Errno}
use Rattle.posix.specs.declared.errno.Errno.TheVariants.{EINVAL, EFAULT}
use Rattle.posix.specs.declared.span.Span.{Span}

-- The maximum number of bytes that one call moves (own).
abbrev pub most_moved : ℕ
most_moved = 16

-- The end of a process's memory: words have addresses below this (own).
abbrev pub address_end : ℕ
address_end = 256

abbrev pub span_at : ℤ → ℕ → Result Span Errno
span_at (negsuc a) n = Err EFAULT
span_at (pos a) n = if nat_le a address_end && nat_le (a + n) address_end then Ok (record { address = a; count = n }) else Err EFAULT

-- Returns the words that an address and a count name. Fails with EINVAL if the count is not 0 to 16, which is checked
-- first, or with EFAULT if the words are not within the memory.
abbrev pub span_in : ℤ → ℤ → Result Span Errno
span_in address (negsuc n) = Err EINVAL
span_in address (pos n) = if nat_le n most_moved then span_at address n else Err EINVAL

-- Stores bytes in memory from an address on, one per word.
unfoldable pub stored : ℕ → List ℕ → List ℤ → List ℤ
stored address [] memory = memory
stored address (b ∷ bs) memory = stored (address + 1) bs (slice_set memory address (pos b))

-- Returns the low 8 bits of a word.
abbrev pub low_byte : ℤ → ℕ
low_byte z = cast_unsigned w64 z % 256

-- Returns the bytes in the words of a span.
unfoldable pub bytes_in : Span → List ℤ → List ℕ
bytes_in span memory = map low_byte (take span.count (drop span.address memory))
