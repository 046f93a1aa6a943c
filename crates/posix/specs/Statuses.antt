-- Wait statuses, as in waitpid(2).
use Rattle.std.specs.Prelude.{ℕ, Bool, ◌+◌, ◌*◌, ◌/◌, ◌%◌, ◌==◌, ◌&&◌, ◌||◌, nat_le, nat_lt, ℤ}
use Rattle.std.specs.Int.{cast_unsigned, w64}
use Rattle.posix.specs.SignalNumbers.{is_signal, is_stop_signal}

-- Returns the wait status of an exit; only the low eight bits of the exit code count (XSH _exit).
abbrev pub exited : ℤ → ℕ
exited code = cast_unsigned w64 code % 256 * 256

-- Returns the wait status of a termination by signal s. No core is dumped, so the core bit is never set (own).
abbrev pub killed : ℕ → ℕ
killed s = s

-- Returns the wait status of a stop by signal s.
abbrev pub stopped : ℕ → ℕ
stopped s = s * 256 + 127

-- The wait status of a continue.
abbrev pub continued : ℕ
continued = 65535

-- Returns true if a wait status reports a termination; its low byte is 127 for a stop, and 255 for
-- a continue, waitpid(2).
abbrev pub tells_end : ℕ → Bool
tells_end status = nat_lt (status % 256) 127

-- ---- valid wait statuses

abbrev pub is_exit_word : ℕ → Bool
is_exit_word w = w % 256 == 0 && nat_le w 65280

-- Returns true if w is the wait status of an exit, or of a termination by a signal.
abbrev pub is_end_word : ℕ → Bool
is_end_word w = is_exit_word w || is_signal w

abbrev pub is_stopped_word : ℕ → Bool
is_stopped_word w = w % 256 == 127 && is_stop_signal (w / 256)

abbrev pub is_continued_word : ℕ → Bool
is_continued_word w = w == continued
