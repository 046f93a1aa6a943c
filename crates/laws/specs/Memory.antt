-- Events and runs for which the host grants all the memory that calls need.
use Rattle.std.specs.Prelude.{ℕ, List, Contains}
use Rattle.posix.specs.declared.call.Call.{Call}
use Rattle.posix.specs.declared.entry.Entry.{Entry}
use Rattle.posix.specs.declared.entry.Entry.TheVariants.{NoMemory}
use Rattle.posix.specs.Common.{Line, line}

-- No entry says that there was no memory for a call.
abbrev pub EntriesGrantAll : List Entry → Type 0
EntriesGrantAll entries = (p : ℕ) (call : Call) → Contains entries (NoMemory p call) → ⊥

-- No line says that there was no memory for a call.
abbrev pub LinesGrantAll : List Line → Type 0
LinesGrantAll lines = (k p : ℕ) (call : Call) → Contains lines (line k (NoMemory p call)) → ⊥
