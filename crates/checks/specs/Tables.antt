-- The view of a table of processes in a vector.
use Rattle.std.specs.Prelude.{ℕ, List}
use Rattle.posix.specs.Common.{Process}
use Rattle.proctable.specs.declared.records.Record.{Record}
use Rattle.proctable.specs.Records.{with_record}

-- The processes of the table, and how many more it has room for.
pub record SortedView : Type 0 where
  pub processes : List Process
  pub room : ℕ

abbrev pub sorted_with_record : SortedView → ℕ → Record → SortedView
sorted_with_record t p b = record t { processes = with_record t.processes p b }
