-- Trace entries of one event, and lines of a trace.
use Rattle.std.specs.Prelude.{ℕ, Bool, false, List, map, count_by, Option, Some, None}
use Rattle.posix.specs.Statuses.{tells_end}
use Rattle.posix.specs.declared.entry.Entry.{Entry}
use Rattle.posix.specs.declared.entry.Entry.TheVariants.{Noted, Called, Moved, Reported, Looked, NoMemory, Marked, Handled, Discarded, Stopped, Returned, Ended, Halted}

-- An entry with the number of its event.
pub record Line : Type 0 where
  pub event : ℕ
  pub entry : Entry

abbrev pub line : ℕ → Entry → Line
line k e = record { event = k; entry = e }

-- Returns the entries of event k as lines.
abbrev pub numbered : ℕ → List Entry → List Line
numbered k entries = map (line k) entries

-- Returns the process of an entry; None for `halt`.
abbrev pub process_of : Entry → Option ℕ
process_of (Noted p z) = Some p
process_of (Called p call z) = Some p
process_of (Moved p call bytes) = Some p
process_of (Reported p call c w) = Some p
process_of (Looked p c w) = Some p
process_of (NoMemory p call) = Some p
process_of (Marked p mark) = Some p
process_of (Handled p s value sender) = Some p
process_of (Discarded p s) = Some p
process_of (Stopped p s) = Some p
process_of (Returned p) = Some p
process_of (Ended p w) = Some p
process_of Halted = None

-- Returns true if a wait reports that a process terminated, and so reaps it.
abbrev pub reports_end : Entry → Bool
reports_end (Reported pid call child status) = tells_end status
reports_end _ = false

-- Returns the number of terminations that the lines report.
abbrev pub reported : List Line → ℕ
reported lines = count_by (λ l. reports_end l.entry) lines
