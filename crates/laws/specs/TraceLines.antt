-- Lines of a trace: the ranges of their values, and which text says a line.
use Rattle.std.specs.Prelude.{ℕ, ◌≡◌, ◌&&◌, Bool, true, false, List, [], ◌∷◌, ◌++◌, length, nat_le, nat_lt, ℤ, pos, int_le}
use Rattle.std.specs.List.{list_all}
use Rattle.posix.specs.declared.entry.Entry.{Entry}
use Rattle.posix.specs.declared.entry.Entry.TheVariants.{Noted, Called, Moved, Reported, Looked, NoMemory, Marked, Handled, Discarded, Stopped, Returned, Ended, Halted}
use Rattle.posix.specs.declared.call.Call.{Call}
use Rattle.posix.specs.declared.call.Call.TheVariants.{Exit, Fork, Waitpid, Sigreturn, Read, Write, Subreaper}
use Rattle.posix.specs.Common.{asks_memory, Line, print_line, is_signal, is_stop_signal, is_i64, is_end_word}

abbrev pub is_number : ℕ → Bool
is_number p = nat_le 1 p && nat_le p 2147483647

-- Returns true if a call that prints only its result can have returned this one.
abbrev pub is_result : Call → ℤ → Bool
is_result Exit z = false
is_result Sigreturn z = false
is_result Subreaper z = false
is_result Waitpid z = int_le z (pos 0)
is_result Read z = int_le z (pos 0)
is_result Write z = int_le z (pos 0)
is_result Fork z = int_le z (pos 2147483647)
is_result _ z = true

abbrev pub moves_bytes : Call → Bool
moves_bytes Read = true
moves_bytes Write = true
moves_bytes _ = false

abbrev pub is_entry : Entry → Bool
is_entry (Noted p z) = is_number p && is_i64 z
is_entry (Called p call z) = is_number p && is_i64 z && is_result call z
is_entry (Moved p call bytes) = is_number p && moves_bytes call && nat_le 1 (length bytes) && nat_le (length bytes) 16 && list_all (λ b. nat_lt b 256) bytes
is_entry (Reported p call c w) = is_number p && is_number c && nat_le w 65535
is_entry (Looked p c w) = is_number p && is_number c && nat_le w 65535
is_entry (NoMemory p call) = is_number p && asks_memory call
is_entry (Marked p mark) = is_number p
is_entry (Handled p s value sender) = is_number p && is_signal s && is_i64 value && nat_le sender 2147483647
is_entry (Discarded p s) = is_number p && is_signal s
is_entry (Stopped p s) = is_number p && is_stop_signal s
is_entry (Returned p) = is_number p
is_entry (Ended p w) = is_number p && is_end_word w
is_entry Halted = true

-- Returns true if the event number is 1 to 1,000,000,000,000, and the entry has one of the forms.
abbrev pub is_line : Line → Bool
is_line l = nat_le 1 l.event && nat_le l.event 1000000000000 && is_entry l.entry

-- A text without its line feed says a line if it is the line as printed, and the line has one of the forms.
abbrev pub Says : List ℕ → Line → Type 0
Says text l = (text ++ 10 ∷ [] ≡ print_line l) × (is_line l ≡ true)
